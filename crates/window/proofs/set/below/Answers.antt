-- Up to a word the high word is empty and the low one counts; beyond it the high word alone does.
use Prim.Native.Nat.{◌-◌, ◌%◌, ◌^◌, ◌<◌}
use native.Mathlib.Omega.{arith}
use Rattle.window.specs.Set.{val}
use Rattle.window.proofs.Words.{below_not, below_low, below_high}
use Rattle.window.proofs.set.below.Goals as goal
use Rattle.window.proofs.set.below.Goals.{Start}

bounds : (c : Start) → (c.args.s.high < 2 ^ 64) × (c.args.s.low < 2 ^ 64)
bounds c = omega arith

pub returns-then-s-ne0 : goal.returns-then-s-ne0
unfolding val
returns-then-s-ne0 c =
    below_not c.args.s.high c.args.s.low (bounds (goal.at.returns-then-s-ne0 c).Start).1 c.args.n (omega arith) c.if-s-ne0.true

pub returns-then-n-le-WORD : goal.returns-then-n-le-WORD
unfolding val
returns-then-n-le-WORD c =
    below_low c.args.s.high c.args.s.low (bounds (goal.at.returns-then-n-le-WORD c).Start).1 c.args.n ((128 - c.args.n) % 64) (omega arith) c.if-s-ne0.false

pub returns : goal.returns
unfolding val
returns c =
    below_high c.args.s.high c.args.s.low (bounds (goal.at.returns c).Start).1 c.args.n ((128 - c.args.n) % 64) (omega arith) (omega arith)
