-- Nothing is due while a command is unwritten; otherwise the timer tells the time.
use mathlib.Core.Path.{◌∙◌}
use Rattle.sender.proofs.Questions.{deadline_idle, deadline_none}
use borrow.Author.Rules.{rules}
use Rattle.sender.proofs.tested.next_deadline.Goals as goal

pub returns-then-s-eq0 : goal.returns-then-s-eq0
returns-then-s-eq0 c = c.due_at.ensures ∙ deadline_idle _ (search rules)

pub returns : goal.returns
returns c = deadline_none _ c.if-s-eq0.false
