-- One bit set or cleared in 32 words: the others stay.
use Prim.Native.Nat.{ℕ, zero, suc, ◌+◌, ◌-◌, ◌*◌, ◌/◌, ◌%◌, ◌^◌, ◌<◌, max}
use mathlib.Core.Path.{◌≡◌, refl, sym, ap, ap₂, ◌∙◌, subst}
use mathlib.Core.Bool.{Bool, true, false, cond}
use mathlib.Core.Logic.{inl, inr}
use mathlib.Core.List.{List}
use native.Mathlib.Nat.{div-eq_of_lt, one-mul, add-zero, mul-add-div_right, mod-eq_of_lt}
use native.Mathlib.Omega.{arith}
use lib.Dec.{eqb}
use lib.ListN.{length, get_or, set}
use lib.Seq.{get_or-set_same, get_or-set_other}
use lib.Pow.{pow_pos, pow-lt, pow-add}
use lib.Bits.{bit_or, bit_xor, differ, or_shr, or_step, xor_shr, xor_step}
use Rattle.config.specs.inner.Tests.{split, tests}
use Rattle.held_notes.specs.State.{has, Turned}

-- ---- digits

bit_range : (a : ℕ) → a % 2 < 2
bit_range a = omega arith

or_digit : (n m j : ℕ) → bit_or n m / 2 ^ j % 2 ≡ max (n / 2 ^ j % 2) (m / 2 ^ j % 2)
or_digit n m j =
    let a : ℕ = n / 2 ^ j in
    let b : ℕ = m / 2 ^ j in
    ap (λ (x : ℕ). x % 2) (or_shr n m j ∙ or_step a b) ∙ low (bit_or (a / 2) (b / 2)) (a % 2) (b % 2) (bit_range a) (bit_range b)
  where
    low : (z x y : ℕ) → x < 2 → y < 2 → (z * 2 + max x y) % 2 ≡ max x y
    low z x y p q = omega arith

xor_digit : (n m j : ℕ) → bit_xor n m / 2 ^ j % 2 ≡ differ (n / 2 ^ j % 2) (m / 2 ^ j % 2)
xor_digit n m j =
    let a : ℕ = n / 2 ^ j in
    let b : ℕ = m / 2 ^ j in
    ap (λ (x : ℕ). x % 2) (xor_shr n m j ∙ xor_step a b) ∙ low (bit_xor (a / 2) (b / 2)) (a % 2) (b % 2) (bit_range a) (bit_range b)
  where
    low : (z x y : ℕ) → x < 2 → y < 2 → (z * 2 + differ x y) % 2 ≡ differ x y
    low z zero zero p q = omega arith
    low z zero (suc zero) p q = omega arith
    low z (suc zero) zero p q = omega arith
    low z (suc zero) (suc zero) p q = omega arith
    low z (suc (suc x)) y p q = absurd (let z : ⊥ = omega arith in z)
    low z zero (suc (suc y)) p q = absurd (let z : ⊥ = omega arith in z)
    low z (suc zero) (suc (suc y)) p q = absurd (let z : ⊥ = omega arith in z)

pow_digit : (i : ℕ) → 2 ^ i / 2 ^ i % 2 ≡ 1
pow_digit i =
    ap (λ (x : ℕ). x / 2 ^ i % 2) (sym (add-zero (1 * 2 ^ i) ∙ one-mul (2 ^ i)))
    ∙ ap (λ (x : ℕ). x % 2) (mul-add-div_right (pow_pos i) 1 0 ∙ ap (λ (x : ℕ). 1 + x) (div-eq_of_lt (pow_pos i)))

pow_other : (i j : ℕ) → (j ≡ i → ⊥) → 2 ^ i / 2 ^ j % 2 ≡ 0
pow_other i j n = elim (split (eqb (i - j) 0)) [
  | inl k ↦ let l : i < j = less i j n (omega (arith, tests)) in ap (λ (x : ℕ). x % 2) (div-eq_of_lt (pow-lt l))
  | inr k ↦
      let d : ℕ = i - j - 1 in
      let e : d + 1 + j ≡ i = omega (arith, tests) in
      ap (λ (x : ℕ). x / 2 ^ j % 2) (sym (ap (λ (x : ℕ). 2 ^ x) e) ∙ pow-add 2 (d + 1) j ∙ sym (add-zero (2 ^ (d + 1) * 2 ^ j)))
      ∙ ap (λ (x : ℕ). x % 2) (mul-add-div_right (pow_pos j) (2 ^ (d + 1)) 0 ∙ ap (λ (x : ℕ). 2 ^ (d + 1) + x) (div-eq_of_lt (pow_pos j)) ∙ add-zero (2 ^ (d + 1)))
      ∙ ap (λ (x : ℕ). x % 2) (pow-add 2 d 1)
      ∙ (let y : ℕ = 2 ^ d in even y)
]
  where
    less : (i j : ℕ) → (j ≡ i → ⊥) → i - j ≡ 0 → i < j
    less i j n e = elim (split (eqb j i)) [ inl k ↦ absurd (n (omega (arith, tests))) | inr k ↦ omega (arith, tests) ]

    even : (y : ℕ) → y * 2 % 2 ≡ 0
    even y = omega arith

-- ---- a word

abbrev one : ℕ → ℕ → Bool
one n j = eqb (n / 2 ^ j % 2) 1

with_one : (n i : ℕ) → one (bit_or n (2 ^ i)) i ≡ true
with_one n i = ap (λ (x : ℕ). eqb x 1) (or_digit n (2 ^ i) i ∙ ap (λ (x : ℕ). max (n / 2 ^ i % 2) x) (pow_digit i) ∙ top (n / 2 ^ i % 2) (bit_range (n / 2 ^ i)))
  where
    top : (x : ℕ) → x < 2 → max x 1 ≡ 1
    top x h = omega arith

with_other : (n i j : ℕ) → (j ≡ i → ⊥) → one (bit_or n (2 ^ i)) j ≡ one n j
with_other n i j h = ap (λ (x : ℕ). eqb x 1) (or_digit n (2 ^ i) j ∙ ap (λ (x : ℕ). max (n / 2 ^ j % 2) x) (pow_other i j h) ∙ same (n / 2 ^ j % 2))
  where
    same : (x : ℕ) → max x 0 ≡ x
    same x = omega arith

differ_zero : (x : ℕ) → differ x 0 ≡ x
differ_zero zero = refl
differ_zero (suc x) = refl

without_one : (n i : ℕ) → one (bit_xor (bit_or n (2 ^ i)) (2 ^ i)) i ≡ false
without_one n i =
    ap (λ (x : ℕ). eqb x 1)
    (xor_digit (bit_or n (2 ^ i)) (2 ^ i) i
    ∙ ap₂ differ (or_digit n (2 ^ i) i ∙ ap (λ (x : ℕ). max (n / 2 ^ i % 2) x) (pow_digit i) ∙ top (n / 2 ^ i % 2) (bit_range (n / 2 ^ i))) (pow_digit i))
  where
    top : (x : ℕ) → x < 2 → max x 1 ≡ 1
    top x h = omega arith

without_other : (n i j : ℕ) → (j ≡ i → ⊥) → one (bit_xor (bit_or n (2 ^ i)) (2 ^ i)) j ≡ one n j
without_other n i j h =
    ap (λ (x : ℕ). eqb x 1) (xor_digit (bit_or n (2 ^ i)) (2 ^ i) j ∙ ap (λ (x : ℕ). differ (bit_or n (2 ^ i) / 2 ^ j % 2) x) (pow_other i j h) ∙ differ_zero (bit_or n (2 ^ i) / 2 ^ j % 2))
    ∙ with_other n i j h

-- ---- 32 words

module _ (held : List ℕ) (note v : ℕ) (l : note / 64 < length held) (b : Bool)
    (here : one v (note % 64) ≡ b) (other : (j : ℕ) → (j ≡ note % 64 → ⊥) → one v j ≡ one (get_or held (note / 64) 0) j) where
  pub has_set : (k : ℕ) → has (set held (note / 64) v) k ≡ cond (eqb k note) b (has held k)
  unfolding has
  has_set k = elim (split (eqb k note)) [
    | inl e ↦
        let i : k ≡ note = omega (arith, tests) in
        rw (e, i, get_or-set_same held (note / 64) v 0 l) here
    | inr e ↦ elim (split (eqb (k / 64) (note / 64))) [
      | inl d ↦
          let i : k / 64 ≡ note / 64 = omega (arith, tests) in
          rw (e, i, get_or-set_same held (note / 64) v 0 l) (other (k % 64) (λ z. apart e i z))
      | inr d ↦ rw (e, get_or-set_other held (note / 64) (k / 64) v 0 (λ z. off d z))
    ]
  ]
    where
      apart : eqb k note ≡ false → k / 64 ≡ note / 64 → k % 64 ≡ note % 64 → ⊥
      apart e i z = omega (arith, tests)

      off : eqb (k / 64) (note / 64) ≡ false → k / 64 ≡ note / 64 → ⊥
      off d z = omega (arith, tests)

-- 1 moved up by k, in a word
abbrev bit : ℕ → ℕ
bit k = (1 * 2 ^ k) % 18446744073709551616

bit_is : (k : ℕ) → k < 64 → 2 ^ k ≡ bit k
bit_is k b = sym (ap (λ (x : ℕ). x % 2 ^ 64) (one-mul (2 ^ k)) ∙ mod-eq_of_lt (pow-lt b))

module _ (held : List ℕ) (note : ℕ) (l : note / 64 < length held) where
  abbrev word : ℕ
  word = get_or held (note / 64) 0

  pub has_with : Turned true note held (set held (note / 64) (bit_or word (bit (note % 64))))
  has_with =
      subst (λ (b : ℕ). Turned true note held (set held (note / 64) (bit_or word b))) (bit_is (note % 64) (omega arith))
      (has_set held note (bit_or word (2 ^ (note % 64))) l true (with_one word (note % 64)) (λ j h. with_other word (note % 64) j h))

  pub has_without : Turned false note held (set held (note / 64) (bit_xor (bit_or word (bit (note % 64))) (bit (note % 64))))
  has_without =
      subst (λ (b : ℕ). Turned false note held (set held (note / 64) (bit_xor (bit_or word b) b))) (bit_is (note % 64) (omega arith))
      (has_set held note (bit_xor (bit_or word (2 ^ (note % 64))) (2 ^ (note % 64))) l false (without_one word (note % 64)) (λ j h. without_other word (note % 64) j h))
