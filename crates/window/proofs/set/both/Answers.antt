-- The digits of each word stand apart.
use mathlib.Core.Path.{sym}
use Prim.Native.Nat.{◌<◌, ◌^◌}
use native.Mathlib.Omega.{arith}
use lib.Bits.{and_block, and_lt}
use Rattle.window.specs.Set.{val}
use Rattle.window.proofs.Words.{of_words}
use Rattle.window.proofs.set.both.Goals as goal
use Rattle.window.proofs.set.both.Goals.{Start}

bounds : (c : Start) → (c.args.a.low < 2 ^ 64) × (c.args.b.low < 2 ^ 64)
bounds c = omega arith

pub returns : goal.returns
unfolding val
returns c =
    let b = bounds (goal.at.returns c).Start in
    of_words _ _ (and_lt 64 c.args.a.low c.args.b.low b.0 b.1) _ (sym (and_block 64 c.args.a.high c.args.b.high c.args.a.low c.args.b.low b.0 b.1))
