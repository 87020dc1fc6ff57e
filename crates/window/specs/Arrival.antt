-- 01, "Position, window, loss": a number arrives.
use Rattle.std.specs.Prelude.{Bool, not, ◌&&◌, cond, ℕ, ◌+◌, ◌-◌, ◌*◌, ◌/◌, ◌%◌, ◌^◌, eqb, None}
use Rattle.std.specs.Int.Bits.{bit_or}
use Rattle.config.specs.Range.{within}
use Rattle.config.specs.Sequence.{ahead}
use Rattle.window.specs.Set.{val, set_of}
use Rattle.window.specs.Window.{processed, missing_of, span_of}
use Rattle.window.specs.declared.window.ReceiveWindow.{ReceiveWindow}
use Rattle.window.specs.declared.window.Arrival.{Arrival}
use Rattle.window.specs.declared.window.Class.{Class}
use Rattle.window.specs.declared.window.Class.TheVariants.{New, Late, Duplicate}

-- the farthest ahead of the highest that a number is read as New: 0x7FFF
abbrev pub reach : ℕ
reach = 32767

-- New if 1 to `reach` ahead, its gap one less than the distance. Any other is read as behind:
-- Late if 1 to the size behind and not processed, otherwise Duplicate
unfoldable pub class_of : ReceiveWindow → ℕ → Class
class_of w seq =
    cond (within 1 reach (ahead w.highest seq)) (New (ahead w.highest seq - 1))
    (cond (within 1 w.size (ahead seq w.highest) && not (processed w (ahead seq w.highest))) Late
    Duplicate)

-- What is processed moves d behind. Below it come the old highest, processed, and the d - 1 skipped ones, unprocessed.
-- Those at `size` and above leave.
unfoldable pub moved_of : ℕ → ℕ → ℕ → ℕ
moved_of size n d = ((n * 2 + 1) * 2 ^ (d - 1)) % 2 ^ size

-- The unprocessed positions that are now more than `size` behind, the first of them as position 0: what was missing, m, and the skipped ones.
unfoldable pub lost_of : ℕ → ℕ → ℕ → ℕ
lost_of size m d = (m * 2 ^ d + (2 ^ (d - 1) - 1)) / 2 ^ size

-- a number d ahead
unfoldable pub new_of : ReceiveWindow → ℕ → ℕ → Arrival
new_of w seq d = record {
  window = record { size = w.size; highest = seq; bits = set_of (moved_of w.size (val w.bits) d) };
  class = New (d - 1);
  lost = span_of seq w.size (lost_of w.size (missing_of w) d);
}

-- the next number, with nothing missing before it
unfoldable pub in_order : ReceiveWindow → ℕ → Bool
in_order w seq = eqb (ahead w.highest seq) 1 && eqb (missing_of w) 0

-- a number at position k of the window
abbrev pub late_at : ReceiveWindow → ℕ → Arrival
late_at w k = record {
  window = record { size = w.size; highest = w.highest; bits = set_of (bit_or (val w.bits) (2 ^ k)) };
  class = Late;
  lost = None;
}

-- a Duplicate changes nothing
abbrev pub unchanged : ReceiveWindow → Arrival
unchanged w = record { window = w; class = Duplicate; lost = None }

abbrev pub taken_of : ReceiveWindow → ℕ → Class → Arrival
taken_of w seq (New gap) = new_of w seq (gap + 1)
taken_of w seq Late = late_at w (ahead seq w.highest - 1)
taken_of w seq Duplicate = unchanged w

unfoldable pub accept_of : ReceiveWindow → ℕ → Arrival
accept_of w seq = taken_of w seq (class_of w seq)
