-- Payloads of 1,400 bytes.
use Prim.Native.Nat.{ℕ, ◌+◌, ◌≤◌}
use Rattle.std.proofs.Common.{Result, Ok, Err}
use Rattle.config.specs.declared.refusal.Refusal.{Refusal}
use Rattle.std.specs.Bool.{⊤}
use mathlib.Core.Path.{◌≡◌, ◌∙◌}
use mathlib.Core.Bool.{true}
use mathlib.Core.List.{List, [], ◌∷◌}
use native.Mathlib.Omega.{arith}
use lib.ListN.{length}
use borrow.Author.Tests.{le-ltb}
use Rattle.packet.specs.Layout.{Packet, size_of}
use Rattle.packet.specs.Write.{limit_of, start_of, done_of, placed_of, written_of, valid_of, WriteEnds, refused, done}
use Rattle.packet.specs.declared.writer.PayloadWriter.{PayloadWriter}
use Rattle.packet.specs.declared.writer.Wrote.{Wrote as Putting}
use Rattle.packet.proofs.Outcomes.{outcome, written_valid, written_length}
use Rattle.rows.specs.Rows.{Row, one_more, row_of}

-- a payload of 1,400 bytes in a buffer of as many
pub record Room (p : PayloadWriter) (b : List ℕ) : Type 0 where
  pub max : p.max ≡ 1400
  pub lent : length b ≡ 1400
  pub valid : valid_of p (length b) ≡ true

pub written_room : (p : PayloadWriter) (b : List ℕ) (c : Packet) → Room p b → Room (written_of p b c).0.payload (written_of p b c).1
written_room p b c m = by (written_of p b c) (outcome p b c)
  where
    by : (w : Putting × List ℕ) → WriteEnds p b c w → Room w.0.payload w.1
    by w (refused r) = m
    by w (done f l) =
        let n = written_length p b c w (done f l) in
        record { max = m.max; lent = n ∙ m.lent; valid = rw n (written_valid p b c w (done f l) m.valid) }

-- one more command where there is room for it
pub one_fits : (p : PayloadWriter) (b : List ℕ) (c : Packet) → Room p b → start_of p + size_of c ≤ 1400 → length c.words ≤ 255 → written_of p b c ≡ (done_of p c, placed_of p b c)
unfolding written_of
one_fits p b c m l k = rw (m.valid, le-ltb (limit_of p (length b)) (start_of p + size_of c) (omega (arith, m.max, m.lent)), le-ltb 255 (length c.words) k)

pub row_room : (cs : List Packet) (p : PayloadWriter) (b : List ℕ) → Room p b → Room (row_of p b cs).payload (row_of p b cs).bytes
unfolding row_of
row_room [] p b m = m
row_room (c ∷ cs) p b m =
    let w = written_of p b c in
    let n = written_room p b c m in
    by w.0.payload w.1 (row_of w.0.payload w.1 cs) n (row_room cs w.0.payload w.1 n) w.0.answer
  where
    by : (q : PayloadWriter) (d : List ℕ) (r : Row) → Room q d → Room r.payload r.bytes → (a : Result ⊤ Refusal) → Room (one_more a q d r).payload (one_more a q d r).bytes
    by q d r n k (Ok _) = k
    by q d r n k (Err why) = n
