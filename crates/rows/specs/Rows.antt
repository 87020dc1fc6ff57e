-- 01, "Write the stream": commands one after the other, up to the first that doesn't fit.
use Rattle.std.specs.Prelude.{ℕ, zero, suc, ◌+◌, ◌≤◌, ◌<◌, Bool, true, false, ◌||◌, List, [], ◌∷◌, length, leb, ltb, Result, Ok, Err, ⊤}
use Rattle.config.specs.declared.refusal.Refusal.{Refusal}
use Rattle.packet.specs.Layout.{Packet, size_of}
use Rattle.packet.specs.Write.{limit_of, start_of, written_of}
use Rattle.packet.specs.declared.writer.PayloadWriter.{PayloadWriter}
use Rattle.history.specs.Headers.{next_at, entries_from}
use Rattle.history.specs.Entries.{Short}
use Rattle.history.specs.Written.{entry_packet}
use Rattle.rows.specs.declared.rows.Row.{Row as Left}

-- ---- a row
-- the payload and its bytes after commands were written up to the first that doesn't fit, how many were, and whether all
pub record Row : Type 0 where
  pub payload : PayloadWriter
  pub bytes : List ℕ
  pub written : ℕ
  pub whole : Bool

-- what the code hands back, and the bytes that it leaves
abbrev pub leaving : Left → List ℕ → Row
leaving r b = record { payload = r.payload; bytes = b; written = r.written; whole = r.whole }

abbrev pub one_more : Result ⊤ Refusal → PayloadWriter → List ℕ → Row → Row
one_more (Ok _) p b r = record { payload = r.payload; bytes = r.bytes; written = 1 + r.written; whole = r.whole }
one_more (Err why) p b r = record { payload = p; bytes = b; written = 0; whole = false }

unfoldable pub row_of : PayloadWriter → List ℕ → List Packet → Row
row_of p b [] = record { payload = p; bytes = b; written = 0; whole = true }
row_of p b (c ∷ cs) =
    let w = written_of p b c in
    one_more w.0.answer w.0.payload w.1 (row_of w.0.payload w.1 cs)

-- ---- commands
unfoldable pub sizes_of : List Packet → ℕ
sizes_of [] = 0
sizes_of (c ∷ cs) = size_of c + sizes_of cs

-- they fit together
abbrev pub fit_all : PayloadWriter → List ℕ → List Packet → Bool
fit_all p b cs = leb (start_of p + sizes_of cs) (limit_of p (length b))

-- one with words is among them
unfoldable pub any_words : List Packet → Bool
any_words [] = false
any_words (c ∷ cs) = ltb 0 (length c.words) || any_words cs

-- ---- entries of the history
-- k entries from the header at place i on, as data commands
unfoldable pub packets_from : ℕ → List ℕ → ℕ → List Packet
packets_from zero ring i = []
packets_from (suc k) ring i = entry_packet ring i ∷ packets_from k ring (next_at ring i)

-- their place is one of a history's words, and none of them is long
pub record Standing (k : ℕ) (ring : List ℕ) (i : ℕ) : Type 0 where
  pub inside : i < length ring
  pub least : 65 ≤ length ring
  pub most : length ring ≤ 32768
  pub short : Short (entries_from k ring i)
