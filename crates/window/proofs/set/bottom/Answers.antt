-- The count of trailing zeros of the lowest word that is not 0 gives its lowest digit; each word below it adds 64.
use mathlib.Core.Path.{◌≡◌, ◌∙◌}
use Prim.Native.Nat.{ℕ, ◌+◌, ◌^◌, ◌<◌}
use native.Mathlib.Nat.{pos_of_ne-zero}
use native.Mathlib.Omega.{arith}
use Rattle.window.specs.Set.{val}
use lib.Count.{trailing_le}
use Rattle.window.proofs.Ends.{bottom1, bottom0}
use Rattle.window.proofs.set.bottom.Goals as goal
use Rattle.window.proofs.set.bottom.Goals.{Start}

bounds : (c : Start) → (c.args.s.high < 2 ^ 64) × (c.args.s.low < 2 ^ 64)
bounds c = omega arith

sum : (z : ℕ) → 64 + z ≡ z + 64
sum z = omega arith

pub returns-then-s-ne0 : goal.returns-then-s-ne0
unfolding val
returns-then-s-ne0 c = let b = bounds (goal.at.returns-then-s-ne0 c).Start in bottom0 c.args.s.high c.args.s.low b.0 b.1 (pos_of_ne-zero c.if-s-ne0.true)

pub overflow_add-result : goal.overflow_add-result
overflow_add-result c =
    omega (arith, trailing_le 64 c.args.s.high, trailing_le 64 c.args.s.low)

pub returns : goal.returns
unfolding val
returns c = let b = bounds (goal.at.returns c).Start in sum _ ∙ bottom1 c.args.s.high c.args.s.low b.0 b.1 c.if-s-ne0.false c.requires
