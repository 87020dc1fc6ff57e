-- What the book holds, of all commands that were ever opened: the newest that fit. So it answers requests with the commands at the positions asked for.
use mathlib.Core.Path.{◌≡◌, refl, sym, ap, ◌∙◌}
use mathlib.Core.Logic.{inl, inr}
use mathlib.Core.Bool.{Bool, true, false, cond}
use mathlib.Core.List.{List, [], ◌∷◌, ◌++◌}
use Prim.Native.Nat.{ℕ, suc, ◌+◌, ◌-◌, ◌%◌, ◌≤◌, ◌<◌, min}
use native.Mathlib.Omega.{arith}
use lib.Dec.{ltb, leb, eqb}
use lib.ListN.{length, take, drop, length-append, length-drop, length-take}
use lib.Seq.{drop-drop, take_all}
use Rattle.config.specs.Sequence.{turn, after, ahead}
use Rattle.config.specs.inner.Tests.{split, tests, lifts}
use Rattle.packet.specs.Layout.{Packet}
use Rattle.packet.specs.declared.writer.PayloadWriter.{PayloadWriter}
use Rattle.command.specs.Write.{error_packet}
use Rattle.command.specs.declared.retransmit.RetransmitRequest.{RetransmitRequest}
use Rattle.history.specs.Entries.{size, kept}
use Rattle.history.specs.Written.{data_packet}
use Rattle.history.proofs.Flat.{size_append}
use Rattle.sender_log.specs.Book.{Book, oldest_in, index_in, absent_in, error_in}
use Rattle.sender_log.specs.Writes.{data_from, written_from, new_in, reach_in, answer_in, rest_in}
use Rattle.sender_log.specs.Schedule.{timer_of}
use Rattle.sender_log.specs.Opened.{Past, longest_end, newest, held, oldest_at, data_at, copies, new_of}
use Rattle.sender_log.specs.Requests.{not_held, reach_of, answer_to, answers_to, in_turn, rest_of, left_after}
use Rattle.sender_log.specs.Counted.{last_written}
use Rattle.sender_log.proofs.Packets.{length_data, take_data}
use Rattle.sender_log.proofs.Serving.{reach_few}
use Rattle.sender_log.proofs.Counting.{answers_in, turn_in, left_in}
use Rattle.sender_log.proofs.Opening.{written_count}

-- ---- the newest that fit

module _ {A : Type 0} where
  end_all : (fits : List A → Bool) (xs : List A) → fits xs ≡ true → longest_end fits xs ≡ xs
  unfolding longest_end
  end_all fits [] e = refl
  end_all fits (x ∷ xs) e = rw e

  -- what fits stays, and before it what fits beside it
  end_append : (fits beside : List A → Bool) (xs ys : List A) → ((zs : List A) → fits (zs ++ ys) ≡ beside zs) → fits ys ≡ true → longest_end fits (xs ++ ys) ≡ longest_end beside xs ++ ys
  unfolding longest_end
  end_append fits beside [] ys h e = end_all fits ys e
  end_append fits beside (x ∷ xs) ys h e = rw (h (x ∷ xs)) (elim (split (beside (x ∷ xs))) [ inl t ↦ rw t | inr t ↦ rw t (end_append fits beside xs ys h e) ])

-- room for b words beside a
room_beside : (a b c : ℕ) → b ≤ c → leb (a + b) c ≡ leb a (c - b)
room_beside a b c l = elim (split (leb a (c - b))) [ inl t ↦ rw t (omega (arith, tests, lifts)) | inr t ↦ rw t (omega (arith, tests, lifts)) ]

module _ (c : ℕ) where
  newest_all : (es : List (List ℕ)) → size es ≤ c → newest c es ≡ es
  newest_all es l = end_all (λ fs. leb (size fs) c) es (omega (arith, lifts))

  pub newest_append : (xs ys : List (List ℕ)) → size ys ≤ c → newest c (xs ++ ys) ≡ newest (c - size ys) xs ++ ys
  newest_append xs ys l =
      end_append (λ fs. leb (size fs) c) (λ fs. leb (size fs) (c - size ys)) xs ys
      (λ zs. ap (λ (n : ℕ). leb n c) (size_append zs ys) ∙ room_beside (size zs) (size ys) c l) (omega (arith, lifts))

  -- and when words are needed, those stay that the history keeps
  pub newest_kept : (need : ℕ) (es : List (List ℕ)) → need ≤ c → newest (c - need) es ≡ kept c need (newest c es)
  unfolding longest_end kept size
  newest_kept need [] l = refl
  newest_kept need (e ∷ es) l = elim (split (leb (size (e ∷ es)) c)) [
    | inl t ↦
        let all : newest c es ≡ es = newest_all es (omega (arith, tests)) in
        elim (split (ltb (c - size (e ∷ es)) need)) [
          | inl u ↦ let v : leb (size (e ∷ es)) (c - need) ≡ false = omega (arith, tests, lifts) in rw (t, u, v) (newest_kept need es l ∙ ap (kept c need) all)
          | inr u ↦ let v : leb (size (e ∷ es)) (c - need) ≡ true = omega (arith, tests, lifts) in rw (t, u, v)
        ]
    | inr t ↦ let v : leb (size (e ∷ es)) (c - need) ≡ false = omega (arith, tests, lifts) in rw (t, v) (newest_kept need es l)
  ]

-- what is left out stands in front
module _ {A : Type 0} (fits : List A → Bool) where
  end_few : (xs : List A) → length (longest_end fits xs) ≤ length xs
  unfolding longest_end
  end_few [] = omega arith
  end_few (x ∷ xs) = elim (split (fits (x ∷ xs))) [ inl t ↦ rw t (omega arith) | inr t ↦ rw t (omega (arith, end_few xs)) ]

  end_drop : (xs : List A) → longest_end fits xs ≡ drop (length xs - length (longest_end fits xs)) xs
  unfolding longest_end
  end_drop [] = refl
  end_drop (x ∷ xs) = elim (split (fits (x ∷ xs))) [
    | inl t ↦ let z : suc (length xs) - suc (length xs) ≡ 0 = omega arith in rw (t, z)
    | inr t ↦
        let z : suc (length xs) - length (longest_end fits xs) ≡ suc (length xs - length (longest_end fits xs)) = omega (arith, end_few xs) in
        rw (t, z) (end_drop xs)
  ]

-- ---- the book agrees with what was ever opened

pub record Agrees (c : ℕ) (b : Book) (x : Past) : Type 0 where
  pub unwritten : b.unwritten ≡ x.unwritten
  pub fits : size b.unwritten ≤ c
  pub written : b.written ≡ newest (c - size b.unwritten) x.written
  pub first : written_count b ≡ length x.written
  pub waiting : b.waiting ≡ x.waiting
  pub idle : b.idle ≡ timer_of x.schedule

data_is : (es : List (List ℕ)) (at : ℕ) → data_at at es ≡ data_from (at % turn) es
unfolding data_at data_from
data_is [] at = refl
data_is (e ∷ es) at =
    let n : (at + 1) % 65536 ≡ (at % 65536 + 1) % 65536 = omega arith in
    ap (λ (l : List Packet). data_packet (at % turn) e ∷ l) (data_is es (at + 1) ∙ ap (λ (m : ℕ). data_from m es) n)

-- a number's place is counted from the oldest, or from position 0
from_first : (first w W j : ℕ) → first + w ≡ W → leb W (first + j) ≡ leb w j
from_first first w W j e = elim (split (leb w j)) [ inl t ↦ rw t (omega (arith, tests, lifts)) | inr t ↦ rw t (omega (arith, tests, lifts)) ]

reach_from : (first w W j count : ℕ) → first + w ≡ W → j < w → cond (eqb count 0) W (min (first + j + count) W) ≡ first + j + cond (eqb count 0) (w - j) (min count (w - j))
reach_from first w W j count e l = elim (split (eqb count 0)) [ inl t ↦ rw t (omega arith) | inr t ↦ rw t (omega arith) ]

-- and so are the last R
last_from : (R first w W : ℕ) → first + w ≡ W → W - min R (W - first) ≡ first + (w - min R w)
last_from R first w W e = omega arith

last_to : (R first w W : ℕ) → first + w ≡ W → W ≡ first + (w - min R w) + (w - (w - min R w))
last_to R first w W e = omega arith

module _ (c : ℕ) (b : Book) (x : Past) (i : Agrees c b x) where
  -- ---- held

  pub held_is : held c x ≡ b.written ++ b.unwritten
  held_is =
      ap (λ (us : List (List ℕ)). newest c (x.written ++ us)) (sym i.unwritten) ∙ newest_append c x.written b.unwritten i.fits
      ∙ ap (λ (es : List (List ℕ)). es ++ b.unwritten) (sym i.written)

  pub oldest_is : oldest_at c x ≡ b.first
  oldest_is = omega (arith, i.first, ap length held_is, length-append b.written b.unwritten, length-append x.written x.unwritten, ap length i.unwritten)

  written_is : b.written ≡ drop b.first x.written
  written_is =
      let n : ℕ = c - size b.unwritten in
      let m : length x.written - length (newest n x.written) ≡ b.first = omega (arith, i.first, ap length i.written) in
      i.written ∙ end_drop (λ fs. leb (size fs) n) x.written ∙ ap (λ (k : ℕ). drop k x.written) m

  -- ---- as data commands

  copies_is : (j k : ℕ) → copies x (b.first + j) (b.first + j + k) ≡ take k (written_from b j)
  copies_is j k =
      let at : ℕ = b.first + j in
      let e : at + k - at ≡ k = omega arith in
      let d : drop at x.written ≡ drop j b.written = sym (drop-drop j b.first x.written) ∙ ap (drop j) (sym written_is) in
      let n : at % 65536 ≡ (b.first % 65536 + j) % 65536 = omega arith in
      data_is (take (at + k - at) (drop at x.written)) at ∙ ap (λ (m : ℕ). data_from (at % turn) (take m (drop at x.written))) e
      ∙ ap (λ (es : List (List ℕ)). data_from (at % turn) (take k es)) d ∙ ap (λ (m : ℕ). data_from m (take k (drop j b.written))) n
      ∙ sym (take_data k (after (oldest_in b) j) (drop j b.written))

  pub new_is : new_of x ≡ new_in b
  new_is =
      let n : length x.written % 65536 ≡ (b.first % 65536 + length b.written) % 65536 = omega (arith, i.first) in
      data_is x.unwritten (length x.written) ∙ ap (λ (m : ℕ). data_from m x.unwritten) n ∙ ap (data_from (after (oldest_in b) (length b.written))) (sym i.unwritten)

  pub last_is : (R : ℕ) → last_written c x R ≡ written_from b (length b.written - min R (length b.written))
  last_is R =
      let w : ℕ = length b.written in
      let j : ℕ = w - min R w in
      let W : ℕ = length x.written in
      ap (λ (o : ℕ). copies x (W - min R (W - o)) W) oldest_is ∙ ap (λ (n : ℕ). copies x n W) (last_from R b.first w W i.first)
      ∙ ap (copies x (b.first + j)) (last_to R b.first w W i.first) ∙ copies_is j (w - j)
      ∙ take_all (w - j) (written_from b j) (omega (arith, length_data (after (oldest_in b) j) (drop j b.written), length-drop j b.written))

  -- ---- requests

  held_same : (seq : ℕ) → not_held c x seq ≡ absent_in b seq
  held_same seq =
      ap (λ (n : ℕ). leb (length x.written) (n + ahead (n % turn) seq)) oldest_is
      ∙ from_first b.first (length b.written) (length x.written) (index_in b seq) i.first

  pub answer_is : (r : RetransmitRequest) → answer_to c x r ≡ answer_in b r
  unfolding answer_to answer_in
  answer_is r =
      ap (λ (t : Bool). cond t (error_packet record { reason = 1; seq = oldest_at c x % turn } ∷ []) (asked (oldest_at c x))) (held_same r.seq)
      ∙ ap (λ (n : ℕ). cond (absent_in b r.seq) (error_packet record { reason = 1; seq = n % turn } ∷ []) (asked n)) oldest_is
      ∙ by (absent_in b r.seq) refl
    where
      asked : ℕ → List Packet
      asked n = copies x (n + ahead (n % turn) r.seq) (reach_of x (n + ahead (n % turn) r.seq) r.count)

      by : (t : Bool) → absent_in b r.seq ≡ t
          → cond t (error_packet (error_in b) ∷ []) (asked b.first) ≡ cond t (error_packet (error_in b) ∷ []) (take (reach_in b r) (written_from b (index_in b r.seq)))
      by true e = refl
      by false e =
          let j : ℕ = index_in b r.seq in
          let l : j < length b.written = omega (arith, tests) in
          ap (copies x (b.first + j)) (reach_from b.first (length b.written) (length x.written) j r.count i.first l) ∙ copies_is j (reach_in b r)

  pub answers_is : (rs : List RetransmitRequest) → answers_to c x rs ≡ answers_in b rs
  unfolding answers_to answers_in
  answers_is [] = refl
  answers_is (r ∷ rs) = rw (answer_is r, answers_is rs)

  pub turn_is : (p : PayloadWriter) (by : List ℕ) (rs : List RetransmitRequest) → in_turn c x p by rs ≡ turn_in b p by rs
  unfolding in_turn turn_in
  turn_is p by [] = refl
  turn_is p by (r ∷ rs) = rw (answer_is r, turn_is p by rs)

  answer_length : (r : RetransmitRequest) → absent_in b r.seq ≡ false → length (answer_in b r) ≡ reach_in b r
  unfolding answer_in
  answer_length r e =
      let j : ℕ = index_in b r.seq in
      rw e (length-take (reach_in b r) (written_from b j) ∙ omega (arith, reach_few b r, length_data (after (oldest_in b) j) (drop j b.written), length-drop j b.written))

  rest_is : (r : RetransmitRequest) (n : ℕ) → rest_of c x r n ≡ rest_in b r n
  unfolding rest_in
  rest_is r n = rw (held_same r.seq, answer_is r) (by (absent_in b r.seq) refl)
    where
      by : (t : Bool) → absent_in b r.seq ≡ t
          → cond t r record { seq = after r.seq n; count = length (answer_in b r) - n } ≡ cond t r record { seq = after r.seq n; count = reach_in b r - n }
      by true e = refl
      by false e = rw (answer_length r e)

  pub left_is : (rs : List RetransmitRequest) (n : ℕ) → left_after c x rs n ≡ left_in b rs n
  unfolding left_after left_in
  left_is [] n = refl
  left_is (r ∷ rs) n = rw (rest_is r n, answer_is r, left_is rs (n - length (answer_in b r)))
