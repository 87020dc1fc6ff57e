-- By cases.
use mathlib.Core.Path.{sym, ap}
use Rattle.c_state.specs.Sender.{idle_words}
use Rattle.c_state.proofs.sender_part.idle_words.Goals as goal

pub returns-in-None : goal.returns-in-None
returns-in-None c = sym (ap idle_words c.in-None.is)

pub returns-in-Some : goal.returns-in-Some
returns-in-Some c = sym (ap idle_words c.in-Some.is)
