-- The digits of each word stand apart.
use mathlib.Core.Path.{sym}
use Prim.Native.Nat.{◌<◌, ◌^◌}
use native.Mathlib.Omega.{arith}
use lib.Bits.{or_block, or_lt}
use Rattle.window.specs.Set.{val}
use Rattle.window.proofs.Words.{of_words}
use Rattle.window.proofs.set.either.Goals as goal
use Rattle.window.proofs.set.either.Goals.{Start}

bounds : (c : Start) → (c.args.a.low < 2 ^ 64) × (c.args.b.low < 2 ^ 64)
bounds c = omega arith

pub returns : goal.returns
unfolding val
returns c =
    let b = bounds (goal.at.returns c).Start in
    of_words _ _ (or_lt 64 c.args.a.low c.args.b.low b.0 b.1) _ (sym (or_block 64 c.args.a.high c.args.b.high c.args.a.low c.args.b.low b.0 b.1))
