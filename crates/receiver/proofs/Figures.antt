-- Figures of paper 01, computed from the definitions.
use mathlib.Core.Path.{◌≡◌, refl}
use Rattle.receiver.specs.Receiver.{due_after}

-- "sets the next delay, 2D, 4D and on": with D 10
pub delays : (due_after 10 0 0 ≡ 10) × (due_after 10 1 0 ≡ 20) × (due_after 10 2 0 ≡ 40) × (due_after 10 31 0 ≡ 21474836480)
unfolding due_after
delays = (refl, refl, refl, refl)

-- "the power capped at 2^32": after 32 requests, after 33 and after 255
pub power_capped : (due_after 10 32 0 ≡ 42949672960) × (due_after 10 33 0 ≡ 42949672960) × (due_after 10 255 0 ≡ 42949672960)
unfolding due_after
power_capped = (refl, refl, refl)

-- "Times add with saturation at 2^64-1"
pub saturated : (due_after 10 0 18446744073709551605 ≡ 18446744073709551615) × (due_after 10 0 18446744073709551606 ≡ 18446744073709551615)
unfolding due_after
saturated = (refl, refl)
