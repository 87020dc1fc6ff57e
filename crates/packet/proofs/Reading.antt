-- What stands at a place of a payload, from the bytes there.
use mathlib.Core.Path.{◌≡◌, refl, sym, ap, ◌∙◌}
use Rattle.std.proofs.Common.{Some, None, Ok, Err}
use mathlib.Core.Bool.{Bool, true, false, ◌&&◌}
use mathlib.Core.Logic.{inl, inr}
use mathlib.Core.List.{List, [], ◌∷◌}
use Prim.Native.Nat.{ℕ, zero, suc, ◌+◌, ◌-◌, ◌*◌, ◌/◌, ◌≤◌, ◌<◌, min}
use native.Mathlib.Numerals.{add-one, add-two, add-three, add-four}
use native.Mathlib.Omega.{arith}
use lib.Dec.{leb, ltb, eqb}
use lib.ListN.{length, take, drop, get_or, length-drop, drop_of_length-le}
use lib.Seq.{drop-cons, take_all}
use borrow.Author.Tests.{le-leb, lt-leb, lt-ltb, le-ltb, ltb-true, ltb-false, leb-true}
use Rattle.config.specs.declared.refusal.Refusal.TheVariants.{BadSignature}
use Rattle.config.specs.inner.Tests.{split, tests, lifts}
use Rattle.std.specs.List.{starts_with}
use Rattle.packet.specs.Bytes.{word_of, words_of}
use Rattle.packet.specs.Read.{header, signed, open_of, item_of, next_of, body_of, word_at}
use Rattle.packet.specs.declared.cursor.Cursor.{Cursor}
use Rattle.packet.specs.declared.cursor.Header.{Header}
use Rattle.packet.specs.declared.cursor.PacketItem.TheVariants.{Command, Truncated, End}

-- four bytes that are there stand at the front
pub drop_four : (b : List ℕ) (at : ℕ) → at + 4 ≤ length b
    → drop at b ≡ get_or b at 0 ∷ get_or b (at + 1) 0 ∷ get_or b (at + 2) 0 ∷ get_or b (at + 3) 0 ∷ drop (at + 4) b
drop_four b at h =
    drop-cons b at 0 (omega arith)
    ∙ rw (add-one, add-two, add-three, add-four, drop-cons b (suc at) 0 (omega arith), drop-cons b (suc (suc at)) 0 (omega arith), drop-cons b (suc (suc (suc at))) 0 (omega arith))

-- ---- the signature
pub signed_short : (b : List ℕ) → length b < 4 → false ≡ signed b
unfolding signed
signed_short [] h = refl
signed_short (a ∷ []) h = refl
signed_short (a ∷ b ∷ []) h = refl
signed_short (a ∷ b ∷ c ∷ []) h = refl
signed_short (a ∷ b ∷ c ∷ d ∷ rest) h = absurd (let z : ⊥ = omega arith in z)

eqb_turned : (a b : ℕ) → eqb a b ≡ eqb b a
eqb_turned a b = elim (split (eqb a b)) [
  | inl e ↦ let f : eqb b a ≡ true = omega (arith, tests, lifts) in cc
  | inr e ↦ let f : eqb b a ≡ false = omega (arith, tests, lifts) in cc
]

and_false : (t : Bool) → (t && false) ≡ false
and_false true = refl
and_false false = refl

and_true : (t : Bool) → (t && true) ≡ t
and_true true = refl
and_true false = refl

pub signed_starts : (b : List ℕ) → starts_with eqb b (0x4D ∷ 0x49 ∷ 0x44 ∷ 0x49 ∷ []) ≡ signed b
unfolding signed
signed_starts [] = refl
signed_starts (a ∷ []) = and_false (eqb 0x4D a)
signed_starts (a ∷ b ∷ []) = rw (and_false (eqb 0x49 b), and_false (eqb 0x4D a))
signed_starts (a ∷ b ∷ c ∷ []) = rw (and_false (eqb 0x44 c), and_false (eqb 0x49 b), and_false (eqb 0x4D a))
signed_starts (a ∷ b ∷ c ∷ d ∷ rest) =
    rw (eqb_turned a 0x4D, eqb_turned b 0x49, eqb_turned c 0x44, eqb_turned d 0x49, and_true (eqb 0x49 d))

-- ---- the next item
item_short : (at : ℕ) (xs : List ℕ) → length xs < 4 → End ≡ item_of at xs
item_short at [] h = refl
item_short at (a ∷ []) h = refl
item_short at (a ∷ b ∷ []) h = refl
item_short at (a ∷ b ∷ c ∷ []) h = refl
item_short at (a ∷ b ∷ c ∷ d ∷ rest) h = absurd (let z : ⊥ = omega arith in z)

module _ (b : List ℕ) (at : ℕ) where
  pub next_end : length b < at + 4 → End ≡ next_of b at
  unfolding next_of
  next_end h = item_short at (drop at b) (simp length-drop (omega arith))

pub length_past_four : (xs : List ℕ) → length (take (length xs - 4) (drop 4 xs)) ≡ length xs - 4
length_past_four xs = ap length (take_all (length xs - 4) (drop 4 xs) (simp length-drop (omega arith))) ∙ length-drop 4 xs

-- ---- the next item, from the bytes r that are left
module _ (b r : List ℕ) (at : ℕ) (e : r ≡ drop at b) where
  pub next_short : length r < 4 → End ≡ next_of b at
  unfolding next_of
  next_short h = rw (← e) (item_short at r h)

  module _ (h : 4 ≤ length r) (n : ℕ) (ne : n ≡ 4 * get_or r 1 0) where
    pub next_more : length r < 4 + n → Truncated (header (get_or r 0 0) (get_or r 1 0) (get_or r 2 0) (get_or r 3 0)) ≡ next_of b at
    unfolding next_of
    next_more k = rw (← e, drop_four r 0 h, lt-leb (4 * get_or r 1 0) (length (drop 4 r)) (simp length-drop (omega arith)))

    pub next_all : 4 + n ≤ length r
        → Command (header (get_or r 0 0) (get_or r 1 0) (get_or r 2 0) (get_or r 3 0)) at record { at = at + 4 + n } ≡ next_of b at
    unfolding next_of
    next_all k = rw (ne, ← e, drop_four r 0 h, le-leb (4 * get_or r 1 0) (length (drop 4 r)) (simp length-drop (omega arith)))

-- ---- the bytes of a command's words
rest_of : (b : List ℕ) (at i : ℕ) → i ≡ min at (length b) → take (length b - i) (drop i b) ≡ drop at b
rest_of b at i e = take_all (length b - i) (drop i b) (simp length-drop (omega arith)) ∙ (elim (split (leb at (length b))) [
  | inl l ↦ let f : i ≡ at = omega (arith, tests) in rw f
  | inr g ↦ rw (drop_of_length-le b {i = i} (omega (arith, tests)), drop_of_length-le b {i = at} (omega (arith, tests)))
])

take_most : (xs : List ℕ) (k n : ℕ) → n ≡ min k (length xs) → take n xs ≡ take k xs
take_most xs k n e = elim (split (leb k (length xs))) [
  | inl l ↦ let f : n ≡ k = omega (arith, tests) in rw f
  | inr g ↦ take_all n xs (omega (arith, tests)) ∙ sym (take_all k xs (omega (arith, tests)))
]

pub body_most : (b : List ℕ) (at : ℕ) (h : Header) (i n : ℕ) → i ≡ min (at + 4) (length b)
    → n ≡ min (4 * h.len) (length (take (length b - i) (drop i b)))
    → take n (take (length b - i) (drop i b)) ≡ body_of b at h
unfolding body_of
body_most b at h i n e f =
    let r = rest_of b (at + 4) i e in
    take_most (take (length b - i) (drop i b)) (4 * h.len) n f ∙ rw r

module _ (b : List ℕ) (at : ℕ) (h : Header) where
  pub body_part : at + 4 ≤ length b → (n : ℕ) → n ≡ 4 * h.len → take (at + 4 + n - (at + 4)) (drop (at + 4) b) ≡ body_of b at h
  unfolding body_of
  body_part k n e = let f : at + 4 + n - (at + 4) ≡ 4 * h.len = omega arith in rw f

-- ---- words of bytes
pub length_words_of : (b : List ℕ) → length (words_of b) ≡ length b / 4
unfolding words_of
length_words_of [] = refl
length_words_of (a ∷ []) = omega arith
length_words_of (a ∷ b ∷ []) = omega arith
length_words_of (a ∷ b ∷ c ∷ []) = omega arith
length_words_of (a ∷ b ∷ c ∷ d ∷ rest) = omega (arith, length_words_of rest)

pub get_d_words_of : (b : List ℕ) (i : ℕ) → 4 * i + 4 ≤ length b
    → word_of (get_or b (4 * i) 0) (get_or b (4 * i + 1) 0) (get_or b (4 * i + 2) 0) (get_or b (4 * i + 3) 0) ≡ get_or (words_of b) i 0
unfolding words_of
get_d_words_of [] i h = absurd (let z : ⊥ = omega arith in z)
get_d_words_of (a ∷ []) i h = absurd (let z : ⊥ = omega arith in z)
get_d_words_of (a ∷ b ∷ []) i h = absurd (let z : ⊥ = omega arith in z)
get_d_words_of (a ∷ b ∷ c ∷ []) i h = absurd (let z : ⊥ = omega arith in z)
get_d_words_of (a ∷ b ∷ c ∷ d ∷ rest) zero h = refl
get_d_words_of (a ∷ b ∷ c ∷ d ∷ rest) (suc i) h =
    let four : 4 * suc i ≡ suc (suc (suc (suc (4 * i)))) = omega arith in
    let one : 4 * i + 1 ≡ suc (4 * i) = omega arith in
    let two : 4 * i + 2 ≡ suc (suc (4 * i)) = omega arith in
    let three : 4 * i + 3 ≡ suc (suc (suc (4 * i))) = omega arith in
    rw (four, add-one, add-two, add-three) (rw (add-one, add-two, add-three) at (get_d_words_of rest i (omega arith)))

module _ (b : List ℕ) (i : ℕ) where
  pub word_here : i < length b / 4
      → (r : ℕ) → r ≡ word_of (get_or b (4 * i) 0) (get_or b (4 * i + 1) 0) (get_or b (4 * i + 2) 0) (get_or b (4 * i + 3) 0)
      → Some r ≡ word_at b i
  unfolding word_at
  word_here h r e = rw (lt-ltb i (length (words_of b)) (omega (arith, length_words_of b))) (ap Some (e ∙ get_d_words_of b i (omega arith)))

  pub word_absent : length b / 4 ≤ i → None ≡ word_at b i
  unfolding word_at
  word_absent h = rw (le-ltb i (length (words_of b)) (omega (arith, length_words_of b)))

  -- and from what was found
  pub word_found : (w : ℕ) → word_at b i ≡ Some w → (i < length (words_of b)) × (w ≡ get_or (words_of b) i 0)
  unfolding word_at
  word_found w e = elim (split (ltb i (length (words_of b)))) [
    | inl k ↦ (ltb-true _ _ k, let f : Some (get_or (words_of b) i 0) ≡ Some w = rw k at e in cc)
    | inr k ↦ absurd (let f : None ≡ Some w = rw k at e in let z : ◌≡◌ {A = ℕ} 0 1 = cc in let y : ⊥ = omega arith in y)
  ]

  pub word_missed : word_at b i ≡ None → length (words_of b) ≤ i
  unfolding word_at
  word_missed e = elim (split (ltb i (length (words_of b)))) [
    | inr k ↦ ltb-false _ _ k
    | inl k ↦ absurd (let f : Some (get_or (words_of b) i 0) ≡ None = rw k at e in let z : ◌≡◌ {A = ℕ} 0 1 = cc in let y : ⊥ = omega arith in y)
  ]

-- ---- opening
pub open_signed : (b : List ℕ) → signed b ≡ true → Ok record { at = 4 } ≡ open_of b
unfolding open_of
open_signed b e = rw e

pub open_unsigned : (b : List ℕ) → signed b ≡ false → Err BadSignature ≡ open_of b
unfolding open_of
open_unsigned b e = rw e

-- ---- a step of the cursor goes on by the command's size, and stays in the payload
item_found : (at : ℕ) (xs : List ℕ) (h : Header) (here : ℕ) (next : Cursor) → item_of at xs ≡ Command h here next
    → (here ≡ at) × (next.at ≡ at + 4 + 4 * h.len) × (4 + 4 * h.len ≤ length xs)
item_found at [] h here next e = absurd (let z : ◌≡◌ {A = ℕ} 0 1 = cc in let y : ⊥ = omega arith in y)
item_found at (a ∷ []) h here next e = absurd (let z : ◌≡◌ {A = ℕ} 0 1 = cc in let y : ⊥ = omega arith in y)
item_found at (a ∷ b ∷ []) h here next e = absurd (let z : ◌≡◌ {A = ℕ} 0 1 = cc in let y : ⊥ = omega arith in y)
item_found at (a ∷ b ∷ c ∷ []) h here next e = absurd (let z : ◌≡◌ {A = ℕ} 0 1 = cc in let y : ⊥ = omega arith in y)
item_found at (code ∷ n ∷ a ∷ b ∷ rest) h here next e = elim (split (leb (4 * n) (length rest))) [
  | inl k ↦
      let f : Command (header code n a b) at record { at = at + 4 + 4 * n } ≡ Command h here next = rw k at e in
      let g : next ≡ record { at = at + 4 + 4 * n } = cc in
      let i : here ≡ at = cc in
      let j : h ≡ header code n a b = cc in
      let fits = leb-true (4 * n) (length rest) k in
      rw (g, j) (i, refl, omega arith)
  | inr k ↦ absurd (let f : Truncated (header code n a b) ≡ Command h here next = rw k at e in let z : ◌≡◌ {A = ℕ} 0 1 = cc in let y : ⊥ = omega arith in y)
]

pub next_found : (b : List ℕ) (at : ℕ) (h : Header) (here : ℕ) (next : Cursor) → next_of b at ≡ Command h here next
    → (here ≡ at) × (next.at ≡ at + 4 + 4 * h.len) × (next.at ≤ length b)
unfolding next_of
next_found b at h here next e =
    let f = item_found at (drop at b) h here next e in
    let l = length-drop at b in
    (f.0, f.1, omega arith)

pub next_advances : (b : List ℕ) (at : ℕ) (h : Header) (here : ℕ) (next : Cursor) → next_of b at ≡ Command h here next
    → (at < next.at) × (next.at ≤ length b)
next_advances b at h here next e = let f = next_found b at h here next e in (omega arith, f.2)
