-- The first bytes of a buffer, or all of it if there are fewer.
use mathlib.Core.Path.{sym, refl}
use Rattle.link.proofs.Turning as turning
use lib.Seq.{length-take-le}
use Rattle.link.proofs.turns.part.Goals as goal

pub returns-then-buf-len : goal.returns-then-buf-len
returns-then-buf-len c = turning.part_all c.args.len c.args.buf.now c.if-buf-len.true

pub slice_bounds-result-end : goal.slice_bounds-result-end
slice_bounds-result-end c = sym (length-take-le _ _ c.if-buf-len.false)

pub returns : goal.returns
returns c = turning.part_some c.args.len c.args.buf.now _ refl
