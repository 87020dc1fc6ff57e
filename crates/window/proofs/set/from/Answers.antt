-- What is not among the n lowest positions is at n or above.
use mathlib.Core.Path.{ap, ◌∙◌}
use Prim.Native.Nat.{ℕ, ◌-◌, ◌^◌, ◌<◌}
use native.Mathlib.Omega.{arith}
use lib.Bits.{bit_and}
use Rattle.window.specs.Set.{max_window, val, set_of}
use Rattle.window.proofs.Words.{val_is, words_lt}
use Rattle.window.proofs.Operations.{from_is}
use Rattle.window.proofs.set.from.Goals as goal
use Rattle.window.proofs.set.from.Goals.{Start}

bounds : (c : Start) → (c.args.s.high < 2 ^ 64) × (c.args.s.low < 2 ^ 64)
bounds c = omega arith

short : (c : Start) → val c.args.s < 2 ^ max_window
unfolding val
short c = words_lt _ _ (bounds c).0 (bounds c).1

pub returns : goal.returns
returns c =
    c.both.ensures
    ∙ ap set_of (ap (bit_and (val c.args.s)) (val_is _ _ c.flipped.ensures ∙ ap (λ (x : ℕ). (2 ^ max_window - 1) - x) (val_is _ _ c.low_ones.ensures))
    ∙ from_is (val c.args.s) c.args.n c.requires (short (goal.at.returns c).Start))
