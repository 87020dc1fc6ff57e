use Rattle.std.proofs.Common.{le-leb}
use borrow.Author.Tests.{lt-leb}
use Rattle.config.specs.inner.Tests.{ltb_not_leb}
use Rattle.config.proofs.range.outside.Goals as goal

pub returns-then-n-low : goal.returns-then-n-low
returns-then-n-low c = simp (lt-leb _ _ c.if-n-low.true)

pub returns : goal.returns
returns c = simp (le-leb _ _ c.if-n-low.false, ltb_not_leb)
