-- A word's digits times 2 ^ 64 are the next word's.
use Prim.Native.Nat.{◌^◌, ◌<◌}
use native.Mathlib.Omega.{arith}
use lib.Pow.{pow_pos}
use Rattle.window.specs.Set.{val}
use Rattle.window.proofs.Words.{of_words, up_words}
use Rattle.window.proofs.set.word_up.Goals as goal
use Rattle.window.proofs.set.word_up.Goals.{Start}

bounds : (c : Start) → (c.args.s.high < 2 ^ 64) × (c.args.s.low < 2 ^ 64)
bounds c = omega arith

pub returns : goal.returns
unfolding val
returns c =
    of_words _ 0 (pow_pos 64) _ (up_words c.args.s.high c.args.s.low (bounds (goal.at.returns c).Start).1 c.args.n)
