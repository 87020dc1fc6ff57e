-- Up to a word the high word is empty; beyond it the low word is full, and the high one has the rest.
use Prim.Native.Nat.{◌-◌, ◌%◌, ◌^◌, ◌<◌}
use native.Mathlib.Omega.{arith}
use Rattle.window.specs.Set.{val}
use Rattle.window.proofs.Words.{all_low, all_not, all_high}
use Rattle.window.proofs.set.is_lowest.Goals as goal
use Rattle.window.proofs.set.is_lowest.Goals.{Start}

bounds : (c : Start) → (c.args.s.high < 2 ^ 64) × (c.args.s.low < 2 ^ 64)
bounds c = omega arith

pub returns-then-n-le-WORD : goal.returns-then-n-le-WORD
unfolding val
returns-then-n-le-WORD c =
    all_low c.args.s.high c.args.s.low (bounds (goal.at.returns-then-n-le-WORD c).Start).1 c.args.n ((128 - c.args.n) % 64) (omega arith) c.requires.2

pub returns-then-s-ne18446744073709551615 : goal.returns-then-s-ne18446744073709551615
unfolding val
returns-then-s-ne18446744073709551615 c =
    all_not c.args.s.high c.args.s.low (bounds (goal.at.returns-then-s-ne18446744073709551615 c).Start).1 c.args.n (omega arith) c.if-s-ne18446744073709551615.true

pub returns : goal.returns
unfolding val
returns c =
    all_high c.args.s.high c.args.s.low (bounds (goal.at.returns c).Start).1 c.args.n (omega arith) ((128 - c.args.n) % 64) (omega arith) c.if-s-ne18446744073709551615.false
