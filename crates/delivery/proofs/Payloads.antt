-- Payloads that hold a list of commands, and what writes add to them.
use Prim.Native.Nat.{ℕ, suc, ◌+◌, ◌≤◌}
use mathlib.Core.Path.{◌≡◌, refl, ap, ◌∙◌}
use mathlib.Core.List.{List, [], ◌∷◌, ◌++◌, append_assoc, append-nil}
use native.Mathlib.Omega.{arith}
use lib.ListN.{length, take, length-append}
use lib.Seq.{length-take-le}
use Rattle.packet.specs.Layout.{Packet, signature, encoded, encoded_all, payload_of, Words32, Encodable, AllEncodable}
use Rattle.packet.specs.Read.{placed}
use Rattle.packet.specs.Write.{bytes_in, done_of, placed_of, written_of, WriteEnds, refused, done}
use Rattle.packet.specs.declared.writer.PayloadWriter.{PayloadWriter}
use Rattle.packet.specs.declared.writer.Wrote.{Wrote}
use Rattle.packet.proofs.RoundTrip.{items_payload, length_encoded}
use Rattle.packet.proofs.Outcomes.{outcome, written_grows, written_length}
use Rattle.command.specs.Calls.{accepts}
use Rattle.rows.specs.Rows.{Row, one_more, row_of}
use Rattle.config.specs.inner.Choices.{by_cond}
use Rattle.delivery.specs.Commands.{Command, is_data, data_in, wholes_in, data_of}
use Rattle.delivery.proofs.Lists.{All, all_append}

-- a payload lies in its buffer and its limit, one that opening takes, and its bytes are those of the commands
pub record Holds (p : PayloadWriter) (by : List ℕ) (cs : List Packet) : Type 0 where
  pub opened : p.max ≤ 1400
  pub below : p.len ≤ p.max
  pub inside : p.len ≤ length by
  pub bytes : bytes_in p by ≡ payload_of cs
  pub encodable : All Encodable cs

-- ---- reading

all_encodable : (cs : List Packet) → All Encodable cs → AllEncodable cs
unfolding AllEncodable
all_encodable [] h = tt
all_encodable (c ∷ cs) h = (h.0, all_encodable cs h.1)

wholes_placed : (cs : List Packet) (at : ℕ) → wholes_in (placed at cs) ≡ cs
unfolding wholes_in placed
wholes_placed [] at = refl
wholes_placed (c ∷ cs) at = ap (λ (ds : List Packet). c ∷ ds) (wholes_placed cs _)

-- reading it finds the data commands among them
pub holds_data : (p : PayloadWriter) (by : List ℕ) (cs : List Packet) → Holds p by cs → data_of (bytes_in p by) ≡ data_in cs
unfolding data_of
holds_data p by cs h =
    ap data_of h.bytes ∙ ap (λ is. data_in (wholes_in is)) (items_payload cs (all_encodable cs h.encodable)) ∙ ap data_in (wholes_placed cs 4)

-- no more than it has bytes
encoded_many : (cs : List Packet) → length cs ≤ length (encoded_all cs)
unfolding encoded_all
encoded_many [] = omega arith
encoded_many (c ∷ cs) = omega (arith, encoded_many cs, length-append (encoded c) (encoded_all cs), length_encoded c)

payload_many : (cs : List Packet) → length cs ≤ length (payload_of cs)
unfolding payload_of
payload_many [] = omega arith
payload_many (c ∷ cs) = omega (arith, encoded_many (c ∷ cs), length-append signature (encoded_all (c ∷ cs)))

data_few : (cs : List Packet) → length (data_in cs) ≤ length cs
unfolding data_in
data_few [] = omega arith
data_few (c ∷ cs) = by_cond (λ (ds : List Command). length ds ≤ length (c ∷ cs)) (is_data c) _ _ (λ e. omega (arith, data_few cs)) (λ e. omega (arith, data_few cs))

pub holds_few : (p : PayloadWriter) (by : List ℕ) (cs : List Packet) → Holds p by cs → length (data_in cs) ≤ 1400
holds_few p by cs h = omega (arith, h.opened, h.below, ap length h.bytes, length-take-le p.len by h.inside, payload_many cs, data_few cs)

-- ---- writing

pub holds_after : (p : PayloadWriter) (by : List ℕ) (c : Packet) (cs : List Packet) (w : Wrote × List ℕ) → WriteEnds p by c w → Words32 c.words → Holds p by cs
    → Holds w.0.payload w.1 (accepts w.0.answer cs c)
holds_after p by c cs w (refused r) e h = h
holds_after p by c cs w (done f l) e h =
    record {
      opened = h.opened;
      below = omega arith;
      inside = rw (written_length p by c _ (done f l)) (omega arith);
      bytes = written_grows p by c cs h.inside f h.bytes;
      encodable = all_append Encodable cs (c ∷ []) h.encodable (record { few = l; words32 = e }, tt);
    }

-- commands one after the other, up to the first that doesn't fit
abbrev RowHolds : List Packet → List Packet → Row → Type 0
RowHolds cs ds r = Holds r.payload r.bytes (ds ++ take r.written cs)

pub holds_row : (cs : List Packet) (p : PayloadWriter) (by : List ℕ) (ds : List Packet) → All Encodable cs → Holds p by ds
    → Holds (row_of p by cs).payload (row_of p by cs).bytes (ds ++ take (row_of p by cs).written cs)
unfolding row_of
holds_row [] p by ds e h = rw append-nil h
holds_row (c ∷ cs) p by ds e h = go (written_of p by c) (outcome p by c) (λ q bytes. holds_row cs q bytes (ds ++ (c ∷ [])) e.1)
  where
    go : (w : Wrote × List ℕ) → WriteEnds p by c w
        → ((q : PayloadWriter) (bytes : List ℕ) → Holds q bytes (ds ++ (c ∷ [])) → RowHolds cs (ds ++ (c ∷ [])) (row_of q bytes cs))
        → RowHolds (c ∷ cs) ds (one_more w.0.answer w.0.payload w.1 (row_of w.0.payload w.1 cs))
    go w (refused r) rest = rw append-nil h
    go w (done f l) rest =
        let q : PayloadWriter = (done_of p c).payload in
        let n : 1 + (row_of q (placed_of p by c) cs).written ≡ suc (row_of q (placed_of p by c) cs).written = omega arith in
        rw (n, ← append_assoc ds (c ∷ [])) (rest q (placed_of p by c) (holds_after p by c ds _ (done f l) e.0.words32 h))
