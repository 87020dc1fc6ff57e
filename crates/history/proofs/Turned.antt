-- What is written of a command comes from its header and its words as they follow each other, wherever in the ring they stand.
use Rattle.std.proofs.Common.{◌≡◌, ℕ, suc, ◌+◌, ◌/◌, ◌<◌, ◌≤◌, List, ◌∷◌, length, get_or, take, drop, sym, ap, ◌∙◌, append-nil, arith}
use Rattle.config.specs.Sequence.{turn}
use Rattle.packet.specs.Layout.{Packet}
use Rattle.packet.specs.Write.{written_of}
use Rattle.packet.specs.declared.writer.PayloadWriter.{PayloadWriter}
use Rattle.history.specs.Ring.{slot_of, view}
use Rattle.history.specs.Headers.{length_at, entry_size, words_at}
use Rattle.history.specs.Written.{data_packet, entry_packet}
use Rattle.history.specs.Turned.{Stands, command_at, PastTheEnd}
use Rattle.history.proofs.Slots.{slot_in}
use Rattle.history.proofs.View.{length_view, view_part, view_first, read_view}

-- the data command of a header and words that follow each other
packet_of : List ℕ → Packet
packet_of c = data_packet (get_or c 0 0 / turn) (drop 1 c)

view_zero : (b : List ℕ) → view b 0 ≡ b
unfolding view
view_zero b = append-nil b

pub header_turned : (b : List ℕ) (i : ℕ) → i < length b → get_or (view b i) 0 0 ≡ get_or b i 0
header_turned b i inside = ap (λ (l : List ℕ). get_or l 0 0) (view_first b i inside)

module _ (b : List ℕ) (i : ℕ) (s : Stands b i) where
  -- the words behind the header are those behind it in the ring read once round
  words_behind : words_at b i ≡ take (length_at b i) (drop 1 (view b i))
  words_behind =
      let short : length_at b i ≤ 64 = s.short in
      let least : 65 ≤ length b = s.least in
      read_view (length_at b i) b (slot_of (length b) i 1) (slot_in (length b) i 1 s.inside (omega arith)) (omega arith)
      ∙ view_part b i s.inside 1 (length_at b i) (omega arith)

  command_is : command_at b i ≡ get_or b i 0 ∷ words_at b i
  command_is =
      let e : 1 + length_at b i ≡ suc (length_at b i) = omega arith in
      rw (e, words_behind, view_first b i s.inside)

  packet_at : entry_packet b i ≡ packet_of (command_at b i)
  unfolding entry_packet packet_of
  packet_at = rw command_is

  length_turned : length (view b i) ≡ length b
  length_turned = length_view b i s.inside

  stands : Stands (view b i) 0
  stands =
      let inside : i < length b = s.inside in
      record { inside = rw length_turned (omega arith); least = rw length_turned s.least; short = rw (header_turned b i inside) s.short }

  ends : entry_size (view b i) 0 ≤ length (view b i)
  ends =
      let short : length_at b i ≤ 64 = s.short in
      let least : 65 ≤ length b = s.least in
      rw (header_turned b i s.inside, length_turned) (omega arith)

  command_turned : command_at b i ≡ command_at (view b i) 0
  command_turned = rw (header_turned b i s.inside, view_zero (view b i))

anywhere : (p : PayloadWriter) (b ring other : List ℕ) (i j : ℕ) → Stands ring i → Stands other j
    → command_at ring i ≡ command_at other j
    → written_of p b (entry_packet ring i) ≡ written_of p b (entry_packet other j)
anywhere p b ring other i j s t e =
    ap (written_of p b) (packet_at ring i s ∙ ap packet_of e ∙ sym (packet_at other j t))

pub past_the_end : PastTheEnd
past_the_end = record {
  length_turned = length_turned;
  stands = stands;
  ends = ends;
  same = λ p b ring i s. anywhere p b ring (view ring i) i 0 s (stands ring i s) (command_turned ring i s);
  anywhere = anywhere;
}
