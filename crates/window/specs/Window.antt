-- 01, "Position, window, loss": the window, its positions and what is missing. Position k of its set is k + 1 behind the highest.
use Rattle.std.specs.Prelude.{Bool, true, ◌&&◌, cond, ℕ, ◌+◌, ◌-◌, ◌^◌, ◌≤◌, ◌<◌, eqb, leb, ltb, Option, Some, None}
use Rattle.window.specs.declared.window.SeqRange.{SeqRange}
use Rattle.config.specs.Range.{within}
use Rattle.config.specs.Sequence.{turn, ahead}
use Rattle.window.specs.Set.{max_window, val, set_of, has, top_of, bottom_of}
use Rattle.window.specs.declared.window.ReceiveWindow.{ReceiveWindow}

-- a size that starting takes, and no position at the size or above
pub record Valid (w : ReceiveWindow) : Type 0 where
  pub some : 1 ≤ w.size
  pub most : w.size ≤ max_window
  pub inside : val w.bits < 2 ^ w.size

-- whether a window is `Valid`
unfoldable pub valid_of : ReceiveWindow → Bool
valid_of w = within 1 max_window w.size && ltb (val w.bits) (2 ^ w.size)

-- all before the highest processed; a fresh window's highest position is -1
abbrev pub fresh_of : ℕ → ℕ → ReceiveWindow
fresh_of size highest = record { size = size; highest = highest; bits = set_of (2 ^ size - 1) }

abbrev pub fresh : ℕ → ReceiveWindow
fresh size = fresh_of size (turn - 1)

-- the number b behind h
abbrev pub behind : ℕ → ℕ → ℕ
behind h b = ahead b h

-- the position b behind the highest is processed: the highest is, and so is all beyond the window
unfoldable pub processed : ReceiveWindow → ℕ → Bool
processed w b = cond (within 1 w.size b) (has (val w.bits) (b - 1)) true

-- a number is the highest, or in the window and processed
unfoldable pub is_processed : ReceiveWindow → ℕ → Bool
is_processed w seq = leb (ahead seq w.highest) w.size && processed w (ahead seq w.highest)

-- the positions of the window that are not processed
unfoldable pub missing_of : ReceiveWindow → ℕ
missing_of w = (2 ^ w.size - 1) - val w.bits

-- from the oldest to the newest position of m, each `base` further behind h
unfoldable pub span_of : ℕ → ℕ → ℕ → Option SeqRange
span_of h base m =
    cond (eqb m 0) None
    (Some record { first = behind h (base + top_of m + 1); count = top_of m - bottom_of m + 1 })

-- the missing span
abbrev pub missing_span : ReceiveWindow → Option SeqRange
missing_span w = span_of w.highest 0 (missing_of w)

-- the request: from the oldest missing position to just before the highest
unfoldable pub request_of : ReceiveWindow → Option SeqRange
request_of w =
    cond (eqb (missing_of w) 0) None
    (Some record { first = behind w.highest (top_of (missing_of w) + 1); count = top_of (missing_of w) + 1 })
