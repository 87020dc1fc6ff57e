-- A word's complement is a difference, and no digit is borrowed from the next word.
use Prim.Native.Nat.{◌-◌, ◌^◌, ◌≤◌}
use native.Mathlib.Omega.{arith}
use lib.Pow.{ones_sub-lt}
use Rattle.window.specs.Set.{val}
use Rattle.window.proofs.Words.{of_words, flip}
use Rattle.window.proofs.set.flipped.Goals as goal
use Rattle.window.proofs.set.flipped.Goals.{Start}

bounds : (c : Start) → (c.args.a.high ≤ 2 ^ 64 - 1) × (c.args.a.low ≤ 2 ^ 64 - 1)
bounds c = omega arith

pub returns : goal.returns
unfolding val
returns c =
    let b = bounds (goal.at.returns c).Start in
    of_words _ _ (ones_sub-lt 64 c.args.a.low) _ (flip (2 ^ 64 - 1) (2 ^ 64 - 1) (2 ^ 64) c.args.a.high c.args.a.low b.0 b.1)
