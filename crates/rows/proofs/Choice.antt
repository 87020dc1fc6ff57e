-- Which commands are written: how far a request reaches, the repeats that fit, and what a row of entries takes of the payload.
use mathlib.Core.Path.{◌≡◌, refl, ◌∙◌}
use mathlib.Core.Bool.{Bool, true, false}
use mathlib.Core.Logic.{inl, inr}
use mathlib.Core.List.{List, [], ◌∷◌}
use Prim.Native.Nat.{ℕ, zero, suc, ◌+◌, ◌-◌, ◌*◌, ◌≤◌, ◌<◌, min}
use native.Mathlib.Omega.{arith}
use lib.ListN.{length, take}
use lib.Dec.{eqb, ltb}
use borrow.Author.Tests.{lt-ltb, le-ltb, le-leb, lt-leb, eq-eqb, ne_eqb}
use Rattle.config.specs.inner.Tests.{split, tests}
use Rattle.packet.specs.Layout.{Packet, size_of}
use Rattle.packet.specs.Write.{valid_of as payload_valid, limit_of, start_of, free_of, done_of, placed_of, written_of, WriteEnds, done}
use Rattle.packet.specs.declared.writer.PayloadWriter.{PayloadWriter}
use Rattle.packet.proofs.Outcomes.{written_valid, written_length}
use Rattle.history.specs.Headers.{length_at, next_at, words_from, entries_from}
use Rattle.history.specs.Entries.{Short}
use Rattle.history.specs.Written.{entry_packet}
use Rattle.history.proofs.Entries.{length_read}
use Rattle.rows.specs.Rows.{row_of, sizes_of, fit_all, packets_from}
use Rattle.rows.specs.Choice.{reached, repeats_of}
use Rattle.rows.proofs.Packets.{length_packets, take_packets, entry_size_lem, entry_few, sizes_packets}
use Rattle.rows.proofs.Filling.{row_with, start_done, out_length, row_size, row_fits, out_few}

-- ---- how far a request reaches
pub reach_all : (count left : ℕ) → count ≡ 0 → left ≡ reached count left
reach_all count left e = rw (eq-eqb _ _ e)

pub reach_some : (count left n : ℕ) → (count ≡ 0 → ⊥) → n ≡ min count left → n ≡ reached count left
reach_some count left n e f = rw (ne_eqb _ _ e) f

pub reach_most : (count left : ℕ) → reached count left ≤ left
reach_most count left = elim (split (eqb count 0)) [
  | inl k ↦ rw k (omega arith)
  | inr k ↦ rw k (omega arith)
]

-- ---- what fits beside the first new command
module _ (p : PayloadWriter) (b ring : List ℕ) (first : ℕ) where
  -- the test, over words
  fits : (cs : List Packet) (w : ℕ) → sizes_of cs ≡ 4 * w → fit_all p b (entry_packet ring first ∷ cs) ≡ ltb (length_at ring first + w) (free_of p (length b))
  unfolding sizes_of
  fits cs w e =
      let need : ℕ = start_of p + (size_of (entry_packet ring first) + sizes_of cs) in
      let z = entry_size_lem ring first in
      elim (split (ltb (length_at ring first + w) (free_of p (length b)))) [
        | inl k ↦ rw k (le-leb need (limit_of p (length b)) (omega (arith, tests)))
        | inr k ↦ rw k (lt-leb need (limit_of p (length b)) (omega (arith, tests)))
      ]

  pub first_fits : length_at ring first < free_of p (length b) → fit_all p b (entry_packet ring first ∷ []) ≡ true
  unfolding sizes_of
  first_fits h = fits [] 0 refl ∙ lt-ltb (length_at ring first + 0) (free_of p (length b)) (omega arith)

  pub first_none : free_of p (length b) ≤ length_at ring first → fit_all p b (entry_packet ring first ∷ []) ≡ false
  unfolding sizes_of
  first_none h = fits [] 0 refl ∙ le-ltb (length_at ring first + 0) (free_of p (length b)) (omega arith)

  -- all of the repeats fit
  pub repeats_stay : (k : ℕ) (i : ℕ) → length_at ring first + words_from k ring i < free_of p (length b)
      → repeats_of p b (entry_packet ring first) (packets_from k ring i) ≡ packets_from k ring i
  unfolding repeats_of packets_from
  repeats_stay zero i h = refl
  repeats_stay (suc k) i h =
      let t = fits (packets_from (suc k) ring i) (words_from (suc k) ring i) (sizes_packets (suc k) ring i) ∙ lt-ltb _ _ h in
      rw t

  -- the oldest is dropped
  pub repeats_drop : (k : ℕ) (i : ℕ) → 0 < k → free_of p (length b) ≤ length_at ring first + words_from k ring i
      → repeats_of p b (entry_packet ring first) (packets_from k ring i) ≡ repeats_of p b (entry_packet ring first) (packets_from (k - 1) ring (next_at ring i))
  unfolding repeats_of packets_from
  repeats_drop zero i s h = absurd (omega arith)
  repeats_drop (suc k) i s h =
      let z : suc k - 1 ≡ k = omega arith in
      let t = fits (packets_from (suc k) ring i) (words_from (suc k) ring i) (sizes_packets (suc k) ring i) ∙ le-ltb _ _ h in
      rw (z, t)

-- ---- a row of entries
written_fits : (p : PayloadWriter) (b : List ℕ) (c : Packet) → payload_valid p (length b) ≡ true → start_of p + size_of c ≤ limit_of p (length b) → length c.words ≤ 255
    → written_of p b c ≡ (done_of p c, placed_of p b c)
unfolding written_of
written_fits p b c v f l = rw (v, le-ltb _ _ f, le-ltb _ _ l)

-- entries that fit are written
pub entries_all : (k m : ℕ) (ring : List ℕ) (i : ℕ) (p : PayloadWriter) (b : List ℕ) → k ≤ m → payload_valid p (length b) ≡ true → Short (entries_from k ring i)
    → start_of p + 4 * words_from k ring i ≤ limit_of p (length b)
    → k ≤ (row_of p b (packets_from m ring i)).written
unfolding row_of packets_from words_from entries_from Short
entries_all zero m ring i p b l v s f = omega arith
entries_all (suc k) zero ring i p b l v s f = absurd (omega arith)
entries_all (suc k) (suc m) ring i p b l v s f =
    let c = entry_packet ring i in
    let z = entry_size_lem ring i in
    let g : start_of p + size_of c ≤ limit_of p (length b) = omega arith in
    let few : length c.words ≤ 255 = omega (arith, entry_few ring i (rw length_read at s.0)) in
    let o : WriteEnds p b c (done_of p c, placed_of p b c) = done g few in
    let e = written_length p b c _ o in
    let d = start_done p c in
    rw (written_fits p b c v g few)
    (omega (arith, entries_all k m ring (next_at ring i) (done_of p c).payload (placed_of p b c) (omega arith) (rw e (written_valid p b c _ o v)) s.1 (rw e (omega arith))))

-- what the payload has less of free words is what the entries take
module _ (k : ℕ) (ring : List ℕ) (i : ℕ) (p : PayloadWriter) (b : List ℕ) (q : PayloadWriter) (bytes : List ℕ) (n : ℕ) (whole : Bool) (out : row_of p b (packets_from k ring i) ≡ row_with q bytes n whole) where
  pub took_few : n ≤ k
  took_few = rw length_packets at (out_few (packets_from k ring i) p b q bytes n whole out)

  took_size : start_of q ≡ start_of p + 4 * words_from n ring i
  took_size =
      let r : start_of q ≡ start_of p + sizes_of (take n (packets_from k ring i)) = rw out at (row_size (packets_from k ring i) p b) in
      rw (take_packets n k ring i took_few, sizes_packets n ring i) at r

  pub took_less : free_of q (length bytes) ≤ free_of p (length b)
  took_less =
      let f = rw out at (row_fits (packets_from k ring i) p b) in
      let l = out_length (packets_from k ring i) p b q bytes n whole out in
      rw (l, f.0) (omega (arith, took_size))

  pub took_words : 0 < free_of p (length b) → free_of p (length b) - free_of q (length bytes) ≡ words_from n ring i
  took_words h =
      let f = rw out at (row_fits (packets_from k ring i) p b) in
      let l = out_length (packets_from k ring i) p b q bytes n whole out in
      let m = f.1 (omega arith) in
      rw (l, f.0) (omega (arith, took_size))
