-- A set of notes as 32 words, and what it holds again.
use Prim.Native.Nat.{ℕ, zero, suc, ◌+◌, ◌-◌, ◌*◌, ◌/◌, ◌%◌, ◌^◌, ◌<◌}
use mathlib.Core.Path.{◌≡◌, refl, sym, ap, ap₂, ◌∙◌}
use mathlib.Core.Bool.{Bool, true, false, cond}
use mathlib.Core.Logic.{inl, inr}
use mathlib.Core.List.{List, ◌∷◌}
use native.Mathlib.Nat.{mul_assoc, mul-add-div_right, mod-eq_of_lt}
use native.Mathlib.Omega.{arith}
use mir.Val.{Fits}
use mir.Syntax.{w64}
use lib.Dec.{eqb}
use lib.Arith.{digits_lt}
use lib.ListN.{length, get_or, drop, drop_of_length-le}
use lib.Seq.{drop-cons}
use lib.Pow.{pow_pos, pow-add, mod-pow-add, high}
use borrow.Author.Tests.{eqb-true}
use Rattle.config.specs.inner.Tests.{split, tests}
use Rattle.held_notes.specs.State.{all_notes, has, bits_below, words_from, set_of}

-- ---- a word by its bits

bits_cong : (f g : ℕ → Bool) (n : ℕ) → ((j : ℕ) → j < n → f j ≡ g j) → bits_below f n ≡ bits_below g n
unfolding bits_below
bits_cong f g zero e = refl
bits_cong f g (suc n) e = ap₂ (λ (b : Bool) (x : ℕ). cond b 1 0 * 2 ^ n + x) (e n (omega arith)) (bits_cong f g n (λ j h. e j (omega arith)))

as_bit : (x : ℕ) → x < 2 → cond (eqb x 1) 1 0 ≡ x
as_bit zero h = refl
as_bit (suc zero) h = refl
as_bit (suc (suc x)) h = absurd (let z : ⊥ = omega arith in z)

next_power : (w n : ℕ) → (w / 2 ^ n % 2) * 2 ^ n + w % 2 ^ n ≡ w % 2 ^ suc n
next_power w n = sym (let z : suc n ≡ 1 + n = omega arith in ap (λ (x : ℕ). w % 2 ^ x) z ∙ mod-pow-add w 1 n)

bits_back : (w n : ℕ) → bits_below (λ (j : ℕ). eqb (w / 2 ^ j % 2) 1) n ≡ w % 2 ^ n
unfolding bits_below
bits_back w zero = omega arith
bits_back w (suc n) =
    let q : ℕ = w / 2 ^ n in
    ap₂ (λ (d x : ℕ). d * 2 ^ n + x) (as_bit (q % 2) (omega arith)) (bits_back w n) ∙ next_power w n

bits_lt : (f : ℕ → Bool) (n : ℕ) → bits_below f n < 2 ^ n
unfolding bits_below
bits_lt f zero = omega arith
bits_lt f (suc n) = next (f n) (bits_lt f n)
  where
    twice : 2 * 2 ^ n ≡ 2 ^ suc n
    twice = sym (let z : suc n ≡ 1 + n = omega arith in ap (λ (x : ℕ). 2 ^ x) z ∙ pow-add 2 1 n)

    next : (b : Bool) → bits_below f n < 2 ^ n → cond b 1 0 * 2 ^ n + bits_below f n < 2 ^ suc n
    next true l = rw (← twice) (digits_lt {q = 1} {m = 2} (omega arith) l)
    next false l = rw (← twice) (digits_lt {q = 0} {m = 2} (omega arith) l)

-- a bit higher up is not seen
lower : (d lo j m : ℕ) → (d * 2 ^ (m + 1 + j) + lo) / 2 ^ j % 2 ≡ lo / 2 ^ j % 2
lower d lo j m =
    ap (λ (x : ℕ). (d * x + lo) / 2 ^ j % 2) (pow-add 2 (m + 1) j)
    ∙ ap (λ (x : ℕ). (x + lo) / 2 ^ j % 2) (sym (mul_assoc d (2 ^ (m + 1)) (2 ^ j)))
    ∙ ap (λ (x : ℕ). x % 2) (mul-add-div_right (pow_pos j) (d * 2 ^ (m + 1)) lo)
    ∙ ap (λ (x : ℕ). (d * x + lo / 2 ^ j) % 2) (pow-add 2 m 1)
    ∙ ap (λ (x : ℕ). (x + lo / 2 ^ j) % 2) (sym (mul_assoc d (2 ^ m) 2))
    ∙ even (d * 2 ^ m) (lo / 2 ^ j)
  where
    even : (y x : ℕ) → (y * 2 + x) % 2 ≡ x % 2
    even y x = omega arith

bit_at : (f : ℕ → Bool) (n j : ℕ) → j < n → eqb (bits_below f n / 2 ^ j % 2) 1 ≡ f j
unfolding bits_below
bit_at f zero j h = absurd (let z : ⊥ = omega arith in z)
bit_at f (suc n) j h = elim (split (eqb j n)) [
  | inl e ↦ rw (eqb-true j n e) (ap (λ (x : ℕ). eqb (x % 2) 1) (high (cond (f n) 1 0) n (bits_lt f n)) ∙ is (f n))
  | inr e ↦
      let l : j < n = omega (arith, tests) in
      let m : ℕ = n - j - 1 in
      let z : n ≡ m + 1 + j = omega arith in
      ap (λ (x : ℕ). eqb x 1) (ap (λ (x : ℕ). (cond (f n) 1 0 * 2 ^ x + bits_below f n) / 2 ^ j % 2) z ∙ lower (cond (f n) 1 0) (bits_below f n) j m) ∙ bit_at f n j l
]
  where
    is : (b : Bool) → eqb (cond b 1 0 % 2) 1 ≡ b
    is true = refl
    is false = refl

-- ---- 32 words

-- of 64 bits each
abbrev pub Words : List ℕ → Type 0
Words held = (length held ≡ 32) × ((i : ℕ) → Fits w64 (get_or held i 0))

word_back : (all : List ℕ) → ((i : ℕ) → Fits w64 (get_or all i 0)) → (i : ℕ) → bits_below (λ (j : ℕ). has all (i * 64 + j)) 64 ≡ get_or all i 0
unfolding has
word_back all b i =
    bits_cong (λ (j : ℕ). has all (i * 64 + j)) (λ (j : ℕ). eqb (get_or all i 0 / 2 ^ j % 2) 1) 64 (λ j h. same j h)
    ∙ bits_back (get_or all i 0) 64 ∙ mod-eq_of_lt (b i).fits
  where
    same : (j : ℕ) → j < 64 → eqb (get_or all ((i * 64 + j) / 64) 0 / 2 ^ ((i * 64 + j) % 64) % 2) 1 ≡ eqb (get_or all i 0 / 2 ^ j % 2) 1
    same j h =
        let x : (i * 64 + j) / 64 ≡ i = omega arith in
        let y : (i * 64 + j) % 64 ≡ j = omega arith in
        ap₂ (λ (a c : ℕ). eqb (get_or all a 0 / 2 ^ c % 2) 1) x y

words_back : (all : List ℕ) → ((i : ℕ) → Fits w64 (get_or all i 0)) → (i n : ℕ) → i + n ≡ length all → words_from (has all) i n ≡ drop i all
unfolding words_from
words_back all b i zero e = sym (drop_of_length-le all {i = i} (omega arith))
words_back all b i (suc n) e =
    ap₂ (λ (w : ℕ) (ws : List ℕ). w ∷ ws) (word_back all b i) (words_back all b (suc i) n (omega arith)) ∙ sym (drop-cons all i 0 (omega arith))

words_cong : (f g : ℕ → Bool) (i n : ℕ) → ((k : ℕ) → k < (i + n) * 64 → f k ≡ g k) → words_from f i n ≡ words_from g i n
unfolding words_from
words_cong f g i zero e = refl
words_cong f g i (suc n) e =
    ap₂ (λ (w : ℕ) (ws : List ℕ). w ∷ ws)
    (bits_cong (λ (j : ℕ). f (i * 64 + j)) (λ (j : ℕ). g (i * 64 + j)) 64 (λ j h. e (i * 64 + j) (omega arith)))
    (words_cong f g (suc i) n (λ k h. e k (omega arith)))

word_at : (f : ℕ → Bool) (i n m : ℕ) → m < n → get_or (words_from f i n) m 0 ≡ bits_below (λ (j : ℕ). f ((i + m) * 64 + j)) 64
unfolding words_from
word_at f i zero m h = absurd (let z : ⊥ = omega arith in z)
word_at f i (suc n) zero h = let z : i ≡ i + 0 = omega arith in ap (λ (x : ℕ). bits_below (λ (j : ℕ). f (x * 64 + j)) 64) z
word_at f i (suc n) (suc m) h =
    let z : suc i + m ≡ i + suc m = omega arith in
    word_at f (suc i) n m (omega arith) ∙ ap (λ (x : ℕ). bits_below (λ (j : ℕ). f (x * 64 + j)) 64) z

-- ---- a set

-- what these words hold settles them
pub set_is : (held : List ℕ) → Words held → (f : ℕ → Bool) → ((k : ℕ) → has held k ≡ f k) → held ≡ set_of f
unfolding set_of
set_is held w f e = sym (words_back held w.1 0 32 (sym w.0)) ∙ words_cong (has held) f 0 32 (λ k h. e k)

-- and a set holds its notes
pub set_has : (f : ℕ → Bool) (k : ℕ) → k < all_notes → has (set_of f) k ≡ f k
unfolding has set_of
set_has f k h =
    let z : (0 + k / 64) * 64 + k % 64 ≡ k = omega arith in
    ap (λ (w : ℕ). eqb (w / 2 ^ (k % 64) % 2) 1) (word_at f 0 32 (k / 64) (omega arith))
    ∙ bit_at (λ (j : ℕ). f ((0 + k / 64) * 64 + j)) 64 (k % 64) (omega arith)
    ∙ ap f z
