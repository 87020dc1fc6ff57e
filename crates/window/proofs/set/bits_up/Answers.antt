-- Each word keeps its lower digits, and takes what the word below pushes out.
use mathlib.Core.Path.{◌≡◌}
use Prim.Native.Nat.{◌+◌, ◌-◌, ◌*◌, ◌^◌, ◌<◌}
use native.Mathlib.Nat.{mod-lt}
use native.Mathlib.Omega.{arith}
use lib.Pow.{pow_pos}
use Rattle.window.specs.Set.{val}
use Rattle.window.proofs.Words.{of_words, bits_words}
use Rattle.window.proofs.set.bits_up.Goals as goal
use Rattle.window.proofs.set.bits_up.Goals.{Start}

bounds : (c : Start) → (c.args.s.high < 2 ^ 64) × (c.args.s.low < 2 ^ 64)
bounds c = omega arith

whole : (c : Start) → 64 - c.args.n + c.args.n ≡ 64
whole c = omega arith

pub returns : goal.returns
unfolding val
returns c =
    of_words _ _ (mod-lt (c.args.s.low * 2 ^ c.args.n) (pow_pos 64)) _ (bits_words c.args.s.high c.args.s.low (bounds (goal.at.returns c).Start).1 c.args.n (64 - c.args.n) (whole (goal.at.returns c).Start))
