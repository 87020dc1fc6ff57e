-- Repeats and new commands: the row of both, and the sender after it.
use mathlib.Core.Path.{◌≡◌, sym, ap, ◌∙◌}
use Rattle.std.proofs.Common.{Option}
use Rattle.idle.specs.declared.idle.Idle.{Idle}
use mathlib.Core.Bool.{Bool, true, false, cond, not}
use mathlib.Core.List.{List, ◌∷◌, ◌++◌}
use Prim.Native.Nat.{ℕ, ◌+◌, ◌-◌, ◌≤◌, ◌<◌, min}
use native.Mathlib.Omega.{arith}
use lib.ListN.{length, drop}
use lib.Dec.{ltb}
use borrow.Author.Tests.{lt-ltb, le-ltb, eq-eqb, ne_eqb}
use Rattle.config.specs.declared.settings.StreamConfig.{StreamConfig}
use Rattle.packet.specs.Write.{valid_of as payload_valid, free_of}
use Rattle.packet.specs.declared.writer.PayloadWriter.{PayloadWriter}
use Rattle.history.specs.Headers.{length_at, next_at, header_at, words_from}
use Rattle.history.specs.Entries.{size, entries_of}
use Rattle.history.specs.Written.{entry_packet}
use Rattle.history.proofs.Entries.{length_entries, drop_entries, size_entries}
use Rattle.history.proofs.States.{state_unwritten}
use Rattle.history.proofs.Walk.{words_add, words_prefix, header_add}
use Rattle.idle.specs.Schedule.{idle_start}
use Rattle.rows.specs.Rows.{row_of, packets_from, Standing}
use Rattle.rows.specs.Choice.{repeats_of}
use Rattle.rows.proofs.Filling.{row_with}
use Rattle.rows.proofs.Packets.{packets_first, length_packets, packets_add, short_prefix, good_standing, any_words_lem}
use Rattle.rows.proofs.Choice.{first_fits, first_none, entries_all, took_few, took_less, took_words}
use Rattle.sender.specs.State.{valid_of}
use Rattle.sender.specs.Requests.{written_count}
use Rattle.writing.specs.Writing.{taken_off, written_off, wrote, refused, new_row, new_by, new_of}
use Rattle.sender.specs.declared.sender.Sender.{Sender}
use Rattle.writing.specs.declared.writing.Wrote.{Wrote}
use Rattle.sender.proofs.Validity.{valid_history, valid_good, valid_unsent}

-- ---- what a row takes off the unwritten commands
abbrev pub starts_idle : Sender → StreamConfig → ℕ → ℕ → ℕ → Option Idle
starts_idle s cfg time n words = cond (ltb n words) (idle_start cfg time) s.idle

module _ (s : Sender) (cfg : StreamConfig) (time n words : ℕ) where
  pub off_starts : (t : Option Idle) → n < words → t ≡ idle_start cfg time → taken_off s n words t ≡ taken_off s n words (starts_idle s cfg time n words)
  off_starts t h e = rw (lt-ltb _ _ h, e)

  pub off_stays : words ≤ n → taken_off s n words s.idle ≡ taken_off s n words (starts_idle s cfg time n words)
  off_stays h = rw (le-ltb _ _ h)

  pub off_is : (ring : List ℕ) → words ≡ words_from n ring (header_at (written_count s) ring s.history.head) → taken_off s n words (starts_idle s cfg time n words) ≡ written_off s cfg time ring n
  unfolding written_off
  off_is ring e = rw (any_words_lem n ring (header_at (written_count s) ring s.history.head), e)

-- the unwritten words are those of the unwritten entries
pub valid_unwritten : (s : Sender) (ring : List ℕ) → valid_of s ring ≡ true → words_from s.unsent ring (header_at (written_count s) ring s.history.head) ≡ s.unsent_words
valid_unwritten s ring v =
    let h = s.history in
    let es : List (List ℕ) = entries_of h ring in
    let u : size (drop (length es - s.unsent) es) ≡ s.unsent_words = (state_unwritten h ring s.unsent s.unsent_words (valid_history s ring v)).take in
    let z : written_count s + s.unsent ≡ h.count = omega (arith, valid_unsent s ring v) in
    let d = rw z at (drop_entries (written_count s) s.unsent ring h.head) in
    sym (size_entries s.unsent ring (header_at (written_count s) ring h.head)) ∙ sym (ap size d) ∙ rw (length_entries h.count ring h.head) at u

-- ---- numbers under other names
pub at_most : (a b : ℕ) {x y : ℕ} → a ≡ x → b ≡ y → a ≤ b → x ≤ y
at_most a b e f l = omega arith

pub less_than : (a b : ℕ) {x y : ℕ} → a ≡ x → b ≡ y → a < b → x < y
less_than a b e f l = omega arith

-- ---- the last k written entries
pub least_few : (a b k : ℕ) → k ≡ min a b → k ≤ b
least_few a b k e = omega arith

module _ (s : Sender) (ring : List ℕ) (v : valid_of s ring ≡ true) (k at : ℕ) (few : k ≤ written_count s) (place : at ≡ header_at (written_count s - k) ring s.history.head) where
  pub last_standing : Standing k ring at
  last_standing = rw place (good_standing s.history ring (valid_good s ring v) (written_count s - k) k (omega arith))

  pub last_words : words_from k ring at ≤ 32768
  last_words =
      let g = valid_good s ring v in
      let z : written_count s - k + k ≡ written_count s = omega arith in
      let a = rw (z, ← place) at (words_add (written_count s - k) k ring s.history.head) in
      omega (arith, words_prefix (written_count s) s.history.count ring s.history.head (omega arith), g.words, g.room, g.most)

  pub last_end : header_at k ring at ≡ header_at (written_count s) ring s.history.head
  last_end =
      let z : written_count s - k + k ≡ written_count s = omega arith in
      rw place (rw z at (sym (header_add (written_count s - k) k ring s.history.head)))

  -- and those of them that are repeated
  pub again_place : (count here : ℕ) → count ≤ k → here ≡ header_at (k - count) ring at → here ≡ header_at (written_count s - count) ring s.history.head
  again_place count here l e =
      let z : written_count s - k + (k - count) ≡ written_count s - count = omega arith in
      e ∙ rw place (rw z at (sym (header_add (written_count s - k) (k - count) ring s.history.head)))

-- ---- the row
module _ (s : Sender) (ring : List ℕ) (v : valid_of s ring ≡ true) (p : PayloadWriter) (b : List ℕ) (valid : payload_valid p (length b) ≡ true) (count at words : ℕ)
    (few : count ≤ written_count s) (place : at ≡ header_at (written_count s - count) ring s.history.head) (sum : words ≡ words_from count ring at) (room : words < free_of p (length b)) where
  pub row_standing : Standing (count + s.unsent) ring at
  row_standing = rw place (good_standing s.history ring (valid_good s ring v) (written_count s - count) (count + s.unsent) (omega (arith, valid_unsent s ring v)))

  module _ (q : PayloadWriter) (bytes : List ℕ) (m : ℕ) (whole : Bool) (out : row_of p b (packets_from (count + s.unsent) ring at) ≡ row_with q bytes m whole) where
    pub row_again : count ≤ m
    row_again =
        let l : count ≤ (row_of p b (packets_from (count + s.unsent) ring at)).written = entries_all count (count + s.unsent) ring at p b (omega arith) valid (short_prefix count (count + s.unsent) ring at (omega arith) row_standing.short) (omega (arith, sum)) in
        rw out at l

    pub row_most : m ≤ count + s.unsent
    row_most = took_few (count + s.unsent) ring at p b q bytes m whole out

    -- the words of the new ones
    abbrev new : ℕ
    new = words_from (m - count) ring (header_at (written_count s) ring s.history.head)

    new_most : new ≤ s.unsent_words
    new_most =
        let w = words_prefix (m - count) s.unsent ring (header_at (written_count s) ring s.history.head) (omega (arith, row_most)) in
        omega (arith, valid_unwritten s ring v)

    module _ (free left : ℕ) (f : free ≡ free_of p (length b)) (l : left ≡ free_of q (length bytes)) where
      pub row_less : left ≤ free
      row_less = rw (f, l) (took_less (count + s.unsent) ring at p b q bytes m whole out)

      took : free - left ≡ words + new
      took =
          let z : count + (m - count) ≡ m = let a = row_again in omega arith in
          rw (f, l) (took_words (count + s.unsent) ring at p b q bytes m whole out (omega arith) ∙ rw (z, last_end s ring v count at few place, ← sum) at (words_add count (m - count) ring at))

      pub row_words : (words ≤ free - left) × (free - left - words ≤ s.unsent_words)
      row_words = let t = took in let n = new_most in (omega arith, omega arith)

      pub row_wrote : (cfg : StreamConfig) (time before : ℕ) (next : Sender) → next ≡ taken_off s (m - count) (free - left - words) (starts_idle s cfg time (m - count) (free - left - words))
          → (wrote next q (before + m) (not whole), bytes) ≡ new_row s cfg time before ring count (row_of p b (packets_from (count + s.unsent) ring at))
      row_wrote cfg time before next e =
          let o : free - left - words ≡ new = let t = took in omega arith in
          rw (out, e, off_is s cfg time (m - count) (free - left - words) ring o)

-- ---- the ways out of `write_new`
module _ (s : Sender) (cfg : StreamConfig) (time n : ℕ) (p : PayloadWriter) (b ring : List ℕ) where
  pub new_none : s.unsent ≡ 0 → (wrote s p n false, b) ≡ new_of s cfg time n p b ring
  unfolding new_of packets_from
  new_none e = sym (ap (λ (m : ℕ). new_by s cfg time n p b ring (packets_from m ring (header_at (written_count s) ring s.history.head))) e)

  module _ (some : s.unsent ≡ 0 → ⊥) (first : ℕ) (e : first ≡ header_at (written_count s) ring s.history.head) where
    news : packets_from s.unsent ring first ≡ entry_packet ring first ∷ packets_from (s.unsent - 1) ring (next_at ring first)
    news = packets_first s.unsent ring first (omega arith)

    new_by_lem : new_of s cfg time n p b ring ≡ new_by s cfg time n p b ring (entry_packet ring first ∷ packets_from (s.unsent - 1) ring (next_at ring first))
    unfolding new_of
    new_by_lem = rw (← e) (ap (new_by s cfg time n p b ring) news)

    pub new_large : free_of p (length b) ≤ length_at ring first → p.len ≡ 0 → (refused s p, b) ≡ new_of s cfg time n p b ring
    new_large h z = sym (new_by_lem ∙ rw (first_none p b ring first h, eq-eqb _ _ z))

    pub new_more : free_of p (length b) ≤ length_at ring first → (p.len ≡ 0 → ⊥) → (wrote s p n true, b) ≡ new_of s cfg time n p b ring
    new_more h z = sym (new_by_lem ∙ rw (first_none p b ring first h, ne_eqb _ _ z))

    pub new_row_lem : (w : Wrote × List ℕ) → length_at ring first < free_of p (length b) → (k at count place : ℕ) → k ≡ min cfg.fec_repeats (written_count s) → at ≡ header_at (written_count s - k) ring s.history.head
        → packets_from count ring place ≡ repeats_of p b (entry_packet ring first) (packets_from k ring at)
        → header_at count ring place ≡ first
        → w ≡ new_row s cfg time n ring count (row_of p b (packets_from (count + s.unsent) ring place))
        → w ≡ new_of s cfg time n p b ring
    new_row_lem w h k at count place f g a l u =
        let r = rw (g, f) at a in
        let c : packets_from (count + s.unsent) ring place ≡ packets_from count ring place ++ (entry_packet ring first ∷ packets_from (s.unsent - 1) ring (next_at ring first)) = rw (l, news) at (packets_add count s.unsent ring place) in
        u ∙ sym (new_by_lem ∙ rw (first_fits p b ring first h, ← r, length_packets, ← c))
