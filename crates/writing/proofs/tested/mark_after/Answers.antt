-- The test is the definition's.
use borrow.Author.Tests.{lt-ltb, le-ltb}
use Rattle.writing.proofs.tested.mark_after.Goals as goal

pub returns-then-unsent-gt0 : goal.returns-then-unsent-gt0
returns-then-unsent-gt0 c = rw (lt-ltb _ _ c.if-unsent-gt0.true)

pub returns : goal.returns
returns c = rw (le-ltb _ _ c.if-unsent-gt0.false) c.oldest.ensures
