-- Entries of the ring as data commands are the commands of the list.
use mathlib.Core.Path.{◌≡◌, refl, sym, ap, ◌∙◌}
use mathlib.Core.List.{List, [], ◌∷◌, ◌++◌}
use Prim.Native.Nat.{ℕ, zero, suc, ◌+◌, ◌-◌, ◌%◌, ◌≤◌, ◌<◌}
use native.Mathlib.Omega.{arith}
use lib.ListN.{length, take, drop, length-drop}
use lib.Seq.{drop-cons, drop-append-le, take-append-le}
use Rattle.config.specs.Sequence.{turn, after}
use Rattle.history.specs.Headers.{next_at, header_at, words_from, entries_from}
use Rattle.history.specs.Entries.{size, Holds}
use Rattle.history.specs.declared.history.SendHistory.{SendHistory}
use Rattle.history.proofs.Entries.{take_entries, drop_entries, size_entries, holds_entries}
use Rattle.history.proofs.Written.{holds_packet_at}
use Rattle.rows.specs.Rows.{packets_from}
use Rattle.sender_log.specs.Writes.{data_from}

-- ---- commands as data commands

pub length_data : (n : ℕ) (es : List (List ℕ)) → length (data_from n es) ≡ length es
unfolding data_from
length_data n [] = refl
length_data n (e ∷ es) = ap suc (length_data (after n 1) es)

pub take_data : (k n : ℕ) (es : List (List ℕ)) → take k (data_from n es) ≡ data_from n (take k es)
unfolding data_from
take_data zero n es = refl
take_data (suc k) n [] = refl
take_data (suc k) n (e ∷ es) = rw (take_data k (after n 1) es)

pub drop_data : (k n : ℕ) (es : List (List ℕ)) → n < turn → drop k (data_from n es) ≡ data_from (after n k) (drop k es)
unfolding data_from
drop_data zero n es l = let e : (n + 0) % 65536 ≡ n = omega arith in rw e
drop_data (suc k) n [] l = refl
drop_data (suc k) n (e ∷ es) l =
    let m : ((n + 1) % 65536 + k) % 65536 ≡ (n + suc k) % 65536 = omega arith in
    drop_data k (after n 1) es (omega arith) ∙ ap (λ (x : ℕ). data_from x (drop k es)) m

-- the k from the j-th on lie among the first
pub part_append : (j k : ℕ) (xs ys : List (List ℕ)) → j + k ≤ length xs → take k (drop j (xs ++ ys)) ≡ take k (drop j xs)
part_append j k xs ys l = rw (drop-append-le j xs ys (omega arith)) (take-append-le k (drop j xs) ys (omega (arith, length-drop j xs)))

-- ---- entries of the ring

header_next : (k : ℕ) (b : List ℕ) (i : ℕ) → header_at (suc k) b i ≡ next_at b (header_at k b i)
unfolding header_at
header_next zero b i = refl
header_next (suc k) b i = header_next k b (next_at b i)

module _ (h : SendHistory) (ring : List ℕ) (es : List (List ℕ)) (a : Holds h ring es) where
  -- k entries from entry j on
  pub packets_data : (k j : ℕ) → j + k ≤ h.count → packets_from k ring (header_at j ring h.head) ≡ data_from (after h.oldest j) (take k (drop j es))
  unfolding packets_from data_from
  packets_data zero j l = refl
  packets_data (suc k) j l =
      let n : ((h.oldest + j) % 65536 + 1) % 65536 ≡ (h.oldest + suc j) % 65536 = omega arith in
      let m : j < length es = omega (arith, a.many) in
      rw (holds_packet_at h ring es a j (omega arith), drop-cons es j [] m, ← header_next j ring h.head, packets_data k (suc j) (omega arith), n)

  -- the words that they take
  pub words_data : (k j : ℕ) → j + k ≤ h.count → words_from k ring (header_at j ring h.head) ≡ size (take k (drop j es))
  words_data k j l =
      let e : j + (h.count - j) ≡ h.count = omega arith in
      let d : drop j (entries_from h.count ring h.head) ≡ entries_from (h.count - j) ring (header_at j ring h.head) = rw e at (drop_entries j (h.count - j) ring h.head) in
      sym (size_entries k ring (header_at j ring h.head))
      ∙ ap size (sym (take_entries k (h.count - j) ring (header_at j ring h.head) (omega arith)))
      ∙ ap (λ (l : List (List ℕ)). size (take k l)) (sym d)
      ∙ ap (λ (l : List (List ℕ)). size (take k (drop j l))) (holds_entries h ring es a)
