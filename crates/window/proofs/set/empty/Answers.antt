-- A number is 0 where its words are.
use Rattle.std.proofs.Common.{◌∙◌, ne_eqb}
use Prim.Native.Nat.{◌^◌}
use lib.Pow.{pow_pos}
use Rattle.window.specs.Set.{val}
use Rattle.window.proofs.Words.{empty_up, empty_not}
use Rattle.window.proofs.set.empty.Goals as goal

pub returns-else-s-eq0 : goal.returns-else-s-eq0
unfolding val
returns-else-s-eq0 c =
    ne_eqb _ _ c.if-s-eq0.false ∙ empty_not c.args.s.high (2 ^ 64) c.args.s.low c.if-s-eq0.false

pub returns-then-s-eq0 : goal.returns-then-s-eq0
unfolding val
returns-then-s-eq0 c = empty_up c.args.s.high (2 ^ 64) c.args.s.low (pow_pos 64) c.if-s-eq0.true
