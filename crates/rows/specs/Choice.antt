-- 01, "History, repeats, idle": how many commands a request is answered with, and which written ones are repeated.
use Rattle.std.specs.Prelude.{ℕ, ◌-◌, ◌≤◌, ◌<◌, min, ◌≡◌, cond, List, [], ◌∷◌, length, eqb}
use Rattle.packet.specs.Layout.{Packet}
use Rattle.packet.specs.Write.{free_of}
use Rattle.packet.specs.declared.writer.PayloadWriter.{PayloadWriter}
use Rattle.history.specs.Headers.{header_at, words_from}
use Rattle.history.specs.Written.{entry_packet}
use Rattle.rows.specs.Rows.{fit_all, packets_from}
use Rattle.rows.specs.declared.rows.Repeated.{Repeated}

-- count 0 reaches the newest written command, and no count reaches past it
abbrev pub reached : ℕ → ℕ → ℕ
reached count left = cond (eqb count 0) left (min count left)

-- the oldest dropped first if they don't fit beside the first new one
unfoldable pub repeats_of : PayloadWriter → List ℕ → Packet → List Packet → List Packet
repeats_of p b first [] = []
repeats_of p b first (c ∷ cs) = cond (fit_all p b (first ∷ c ∷ cs)) (c ∷ cs) (repeats_of p b first cs)

-- those of k entries from the header at place i on that are repeated before the one at `first`: the last of them, their words counted, for which there is space
pub record Chosen (p : PayloadWriter) (b ring : List ℕ) (i k first : ℕ) (r : Repeated) : Type 0 where
  pub packets : packets_from r.count ring r.at ≡ repeats_of p b (entry_packet ring first) (packets_from k ring i)
  pub few : r.count ≤ k
  pub place : r.at ≡ header_at (k - r.count) ring i
  pub words : r.words ≡ words_from r.count ring r.at
  pub room : r.words < free_of p (length b)
