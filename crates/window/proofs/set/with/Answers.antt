-- Position k is digit k of the low word, or digit k - 64 of the high one.
use Prim.Native.Nat.{◌-◌, ◌^◌, ◌<◌}
use native.Mathlib.Omega.{arith}
use Rattle.window.specs.Set.{val}
use Rattle.window.proofs.Words.{with_low, with_high}
use Rattle.window.proofs.set.with.Goals as goal
use Rattle.window.proofs.set.with.Goals.{Start}

bounds : (c : Start) → (c.args.s.high < 2 ^ 64) × (c.args.s.low < 2 ^ 64)
bounds c = omega arith

pub returns-then-k-lt-WORD : goal.returns-then-k-lt-WORD
unfolding val
returns-then-k-lt-WORD c =
    with_low c.args.s.high c.args.s.low (bounds (goal.at.returns-then-k-lt-WORD c).Start).1 c.args.k (omega arith)

pub returns : goal.returns
unfolding val
returns c =
    with_high c.args.s.high c.args.s.low (bounds (goal.at.returns c).Start).1 c.args.k (c.args.k - 64) (omega arith) (omega arith)
