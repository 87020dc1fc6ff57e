-- By the two cases of the timer.
use mathlib.Core.Path.{sym, ap}
use Rattle.sender.specs.Requests.{due_at}
use Rattle.sender.proofs.tested.due_at.Goals as goal

pub returns-in-Some : goal.returns-in-Some
returns-in-Some c = sym (ap due_at c.in-Some.is)
