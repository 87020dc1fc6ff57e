-- 0 stands for the place behind the signature.
use borrow.Author.Tests.{eq-eqb, ne_eqb}
use Rattle.read_command.proofs.next.first.Goals as goal

pub returns-then-at-eq0 : goal.returns-then-at-eq0
returns-then-at-eq0 c = rw (eq-eqb _ 0 c.if-at-eq0.true)

pub returns-else-at-eq0 : goal.returns-else-at-eq0
returns-else-at-eq0 c = rw (ne_eqb _ 0 c.if-at-eq0.false)
