-- Figures of paper 01, computed from the definitions.
use mathlib.Core.Path.{◌≡◌, refl}
use mathlib.Core.Bool.{true, false}
use mathlib.Core.List.{List}
use Prim.Native.Nat.{ℕ}
use Rattle.config.specs.declared.refusal.Refusal.TheVariants.{InvalidState}
use Rattle.packet.specs.Layout.{Packet}
use Rattle.packet.specs.Write.{valid_of, refused_of, written_of}
use Rattle.packet.specs.declared.writer.PayloadWriter.{PayloadWriter}

abbrev holding : ℕ → PayloadWriter
holding len = record { len = len; max = 1400 }

-- "13 when .. a nonempty payload length is below 8": 4 is refused, whatever is written into whatever buffer
pub four_refused : (b : List ℕ) (c : Packet) → written_of (holding 4) b c ≡ (refused_of (holding 4) InvalidState, b)
unfolding written_of valid_of
four_refused b c = refl

-- and 8 is taken
pub eight_taken : valid_of (holding 8) 8 ≡ true
unfolding valid_of
eight_taken = refl

-- ".. above its limit or lent buffer, or no multiple of 4"
pub others_refused : (valid_of (holding 1404) 2000 ≡ false) × (valid_of (holding 12) 11 ≡ false) × (valid_of (holding 10) 1400 ≡ false)
unfolding valid_of
others_refused = (refl, refl, refl)
