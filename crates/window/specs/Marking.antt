-- 01, "Position, window, loss": a Retransmit Error marks the missing positions of its span and reports from the oldest to the newest of them.
use Rattle.std.specs.Prelude.{Bool, ◌&&◌, cond, ℕ, zero, suc, ◌+◌, ◌^◌, ltb}
use Rattle.std.specs.Int.Bits.{bit_or}
use Rattle.config.specs.Sequence.{ahead}
use Rattle.window.specs.Set.{val, set_of, has}
use Rattle.window.specs.Window.{behind, missing_of, span_of}
use Rattle.window.specs.declared.window.ReceiveWindow.{ReceiveWindow}
use Rattle.window.specs.declared.window.SeqRange.{SeqRange}
use Rattle.window.specs.declared.window.Marked.{Marked}

-- a number is in a range
abbrev pub in_range : SeqRange → ℕ → Bool
in_range r seq = ltb (ahead r.first seq) r.count

-- position k of m behind h, where its number is in the range
unfoldable pub hit_at : SeqRange → ℕ → ℕ → ℕ → ℕ
hit_at r h m k = cond (has m k && in_range r (behind h (k + 1))) (2 ^ k) 0

-- the positions of m below k whose numbers are in the range
unfoldable pub hits_of : SeqRange → ℕ → ℕ → ℕ → ℕ
hits_of r h m zero = 0
hits_of r h m (suc k) = hits_of r h m k + hit_at r h m k

-- the missing positions whose numbers are in the range are processed now
unfoldable pub mark_of : ReceiveWindow → SeqRange → Marked
mark_of w r =
    let found = hits_of r w.highest (missing_of w) w.size in
    record {
      window = record { size = w.size; highest = w.highest; bits = set_of (bit_or (val w.bits) found) };
      span = span_of w.highest 0 found;
    }
