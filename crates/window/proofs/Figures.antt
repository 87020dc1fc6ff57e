-- Figures of paper 01, computed from the definitions.
use mathlib.Core.Path.{◌≡◌, refl}
use Rattle.std.proofs.Common.{Some}
use mathlib.Core.Bool.{true, false}
use Prim.Native.Nat.{ℕ}
use lib.Count.{count_trailing_zeros}
use Rattle.window.specs.Set.{val, set_of, top_in, top_of, bottom_of}
use Rattle.window.specs.Window.{fresh, processed, is_processed, missing_of, span_of}
use Rattle.window.specs.Marking.{in_range, hit_at, hits_of, mark_of}
use Rattle.window.specs.declared.window.ReceiveWindow.{ReceiveWindow}
use Rattle.window.specs.declared.window.SeqRange.{SeqRange}

abbrev range : ℕ → ℕ → SeqRange
range first count = record { first = first; count = count }

-- a range of first and count: first + count - 1 is in it and first + count is not, across the turn too
pub range_ends : (in_range (range 10 4) 10 ≡ true) × (in_range (range 10 4) 13 ≡ true) × (in_range (range 10 4) 14 ≡ false) × (in_range (range 10 4) 9 ≡ false)
    × (in_range (range 65534 4) 1 ≡ true) × (in_range (range 65534 4) 2 ≡ false)
range_ends = (refl, refl, refl, refl, refl, refl)

-- the numbers 0 to 3 before 4, none of them processed
abbrev none : ReceiveWindow
none = record { size = 4; highest = 4; bits = set_of 0 }

-- "marks the missing positions of its span": of first 1 count 2, 1 and 2, which are 3 and 2 behind; 3 and 0 stay missing
pub marked_ends : mark_of none (range 1 2) ≡ record { window = record { size = 4; highest = 4; bits = set_of 6 }; span = Some (range 1 2) }
unfolding mark_of hits_of hit_at missing_of span_of top_of top_in bottom_of count_trailing_zeros val set_of
marked_ends = refl

-- W 4, fresh: the highest and the number 4 behind it are told as processed; 5 behind it is beyond the window, and false
pub beyond_window : (is_processed (fresh 4) 65535 ≡ true) × (is_processed (fresh 4) 65531 ≡ true) × (is_processed (fresh 4) 65530 ≡ false)
unfolding is_processed processed val set_of
beyond_window = (refl, refl, refl)
