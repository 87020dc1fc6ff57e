-- The entries of a history as commands: the first ones of them, their sizes, and that none is long.
use mathlib.Core.Path.{◌≡◌, refl, sym, ap}
use mathlib.Core.Logic.{inl, inr}
use mathlib.Core.List.{List, [], ◌∷◌, ◌++◌}
use Prim.Native.Nat.{ℕ, zero, suc, ◌+◌, ◌-◌, ◌*◌, ◌≤◌, ◌<◌}
use native.Mathlib.Omega.{arith}
use lib.ListN.{length, take}
use lib.Dec.{ltb}
use borrow.Author.Tests.{le-ltb, lt-ltb}
use Rattle.config.specs.inner.Tests.{split, tests}
use Rattle.packet.specs.Layout.{Packet, size_of}
use Rattle.history.specs.Headers.{length_at, entry_size, next_at, header_at, words_from, entries_from}
use Rattle.history.specs.Entries.{Short}
use Rattle.history.specs.State.{Good}
use Rattle.history.specs.Written.{entry_packet}
use Rattle.history.specs.declared.history.SendHistory.{SendHistory}
use Rattle.history.proofs.Entries.{length_read, short_entries}
use Rattle.rows.specs.Rows.{sizes_of, any_words, packets_from, Standing}
use Rattle.history.proofs.Room.{good_header}
use Rattle.history.proofs.Walk.{words_none, words_count, header_add}

-- ---- the first entry, and the first j of them
module _ (k : ℕ) (ring : List ℕ) (i : ℕ) (some : 0 < k) where
  one : k ≡ suc (k - 1)
  one = omega arith

  pub packets_first : packets_from k ring i ≡ entry_packet ring i ∷ packets_from (k - 1) ring (next_at ring i)
  unfolding packets_from
  packets_first = ap (λ (n : ℕ). packets_from n ring i) one

  pub short_first : Short (entries_from k ring i) → (length_at ring i ≤ 64) × Short (entries_from (k - 1) ring (next_at ring i))
  unfolding entries_from Short
  short_first s = let t : Short (entries_from (suc (k - 1)) ring i) = rw one at s in (rw length_read at t.0, t.1)

pub packets_none : (ring : List ℕ) (i : ℕ) → packets_from 0 ring i ≡ []
unfolding packets_from
packets_none ring i = refl

pub length_packets : (k : ℕ) (ring : List ℕ) (i : ℕ) → length (packets_from k ring i) ≡ k
unfolding packets_from
length_packets zero ring i = refl
length_packets (suc k) ring i = ap suc (length_packets k ring (next_at ring i))

pub take_packets : (n k : ℕ) (ring : List ℕ) (i : ℕ) → n ≤ k → take n (packets_from k ring i) ≡ packets_from n ring i
unfolding packets_from
take_packets zero k ring i l = refl
take_packets (suc n) zero ring i l = absurd (omega arith)
take_packets (suc n) (suc k) ring i l = ap (λ (cs : List Packet). entry_packet ring i ∷ cs) (take_packets n k ring (next_at ring i) (omega arith))

pub packets_add : (j k : ℕ) (ring : List ℕ) (i : ℕ) → packets_from (j + k) ring i ≡ packets_from j ring i ++ packets_from k ring (header_at j ring i)
unfolding packets_from header_at
packets_add zero k ring i = let e : 0 + k ≡ k = omega arith in rw e
packets_add (suc j) k ring i =
    let e : suc j + k ≡ suc (j + k) = omega arith in
    rw e (ap (λ (cs : List Packet). entry_packet ring i ∷ cs) (packets_add j k ring (next_at ring i)))

-- the header after the one that is k - n after the start
pub header_next : (k n : ℕ) (ring : List ℕ) (start i at : ℕ) → 0 < n → n ≤ k → i ≡ header_at (k - n) ring start → at ≡ next_at ring i → at ≡ header_at (k - (n - 1)) ring start
unfolding header_at
header_next k n ring start i at s l e f =
    let z : k - (n - 1) ≡ k - n + 1 = omega arith in
    rw (z, f, e) (sym (header_add (k - n) 1 ring start))

-- ---- no entry is long
pub short_from : (j k : ℕ) (ring : List ℕ) (i : ℕ) → Short (entries_from (j + k) ring i) → Short (entries_from k ring (header_at j ring i))
unfolding entries_from header_at Short
short_from zero k ring i s = let e : 0 + k ≡ k = omega arith in rw e at s
short_from (suc j) k ring i s =
    let e : suc j + k ≡ suc (j + k) = omega arith in
    let t : Short (entries_from (suc (j + k)) ring i) = rw e at s in
    short_from j k ring (next_at ring i) t.1

pub short_prefix : (j k : ℕ) (ring : List ℕ) (i : ℕ) → j ≤ k → Short (entries_from k ring i) → Short (entries_from j ring i)
unfolding entries_from Short
short_prefix zero k ring i l s = tt
short_prefix (suc j) zero ring i l s = absurd (omega arith)
short_prefix (suc j) (suc k) ring i l s = (s.0, short_prefix j k ring (next_at ring i) (omega arith) s.1)

good_short : (h : SendHistory) (ring : List ℕ) → Good h ring → (j k : ℕ) → j + k ≤ h.count → Short (entries_from k ring (header_at j ring h.head))
good_short h ring g j k l =
    short_from j k ring h.head (short_prefix (j + k) h.count ring h.head l (short_entries h.count ring h.head h.oldest g.headers))

-- entries of a good history stand in it
pub good_standing : (h : SendHistory) (ring : List ℕ) → Good h ring → (j k : ℕ) → j + k ≤ h.count → Standing k ring (header_at j ring h.head)
good_standing h ring g j k l =
    record {
      inside = good_header h ring g j (omega arith);
      least = omega (arith, g.ring, g.least);
      most = omega (arith, g.ring, g.most);
      short = good_short h ring g j k l;
    }

-- ---- sizes
-- the bytes of an entry are four for each of its words, its header with them
pub entry_size_lem : (ring : List ℕ) (i : ℕ) → size_of (entry_packet ring i) ≡ 4 * entry_size ring i
unfolding entry_packet
entry_size_lem ring i = rw length_read (omega arith)

pub entry_few : (ring : List ℕ) (i : ℕ) → length_at ring i ≤ 64 → length (entry_packet ring i).words ≤ 64
unfolding entry_packet
entry_few ring i l = rw length_read l

pub sizes_packets : (k : ℕ) (ring : List ℕ) (i : ℕ) → sizes_of (packets_from k ring i) ≡ 4 * words_from k ring i
unfolding sizes_of packets_from words_from
sizes_packets zero ring i = refl
sizes_packets (suc k) ring i = omega (arith, entry_size_lem ring i, sizes_packets k ring (next_at ring i))

pub words_some : (k : ℕ) (ring : List ℕ) (i room : ℕ) {left : ℕ} → room < left → left ≡ words_from k ring i → 0 < k
words_some zero ring i room h e = let z : words_from 0 ring i ≡ 0 = words_none ring i in omega arith
words_some (suc k) ring i room h e = omega arith

-- a command has words exactly where the words are more than the headers
pub any_words_lem : (n : ℕ) (ring : List ℕ) (i : ℕ) → any_words (packets_from n ring i) ≡ ltb n (words_from n ring i)
unfolding any_words packets_from words_from entry_packet
any_words_lem zero ring i = refl
any_words_lem (suc n) ring i =
    let c = words_count n ring (next_at ring i) in
    rw (length_read, any_words_lem n ring (next_at ring i))
    (elim (split (ltb 0 (length_at ring i))) [
      | inl k ↦ rw k (sym (lt-ltb (suc n) (entry_size ring i + words_from n ring (next_at ring i)) (omega (arith, tests))))
      | inr k ↦
          let z : length_at ring i ≡ 0 = omega (arith, tests) in
          rw (k) (elim (split (ltb n (words_from n ring (next_at ring i)))) [
            | inl h ↦ rw h (sym (lt-ltb (suc n) (entry_size ring i + words_from n ring (next_at ring i)) (omega (arith, tests))))
            | inr h ↦ rw h (sym (le-ltb (suc n) (entry_size ring i + words_from n ring (next_at ring i)) (omega (arith, tests))))
          ])
    ])
