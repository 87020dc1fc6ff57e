-- Position k is digit k of the low word, or digit k - 64 of the high one.
use mathlib.Core.Path.{sym}
use Prim.Native.Nat.{◌^◌, ◌<◌}
use native.Mathlib.Omega.{arith}
use Rattle.window.specs.Set.{val}
use Rattle.window.proofs.Digits.{has_low, has_high}
use Rattle.window.proofs.set.holds.Goals as goal
use Rattle.window.proofs.set.holds.Goals.{Start}

bounds : (c : Start) → (c.args.s.high < 2 ^ 64) × (c.args.s.low < 2 ^ 64)
bounds c = omega arith

pub returns-then-k-lt-WORD : goal.returns-then-k-lt-WORD
unfolding val
returns-then-k-lt-WORD c =
    sym (has_low c.args.s.high 64 c.args.s.low c.args.k (omega arith))

pub returns : goal.returns
unfolding val
returns c =
    sym (has_high c.args.s.high 64 c.args.s.low c.args.k (bounds (goal.at.returns c).Start).1 (omega arith))
