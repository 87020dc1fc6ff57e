-- The positions of a set, one by one: what `has` says of each operation on its number.
use mathlib.Core.Path.{◌≡◌, refl, sym, ap, ap₂, ◌∙◌, subst}
use mathlib.Core.Bool.{true, false, not, ◌||◌}
use mathlib.Core.Logic.{inl, inr}
use Prim.Native.Nat.{ℕ, zero, suc, ◌+◌, ◌-◌, ◌*◌, ◌/◌, ◌%◌, ◌^◌, ◌≤◌, ◌<◌}
use native.Mathlib.Nat.{le_refl, le_trans, le_of_eq, lt_of_lt_of_le, mod-lt, div-eq_of_lt, div-eq_of_lt-le, mul_assoc, one-mul, mul_comm, add-zero, add-sub_of_le, pos_of_ne-zero, sub-zero, pow-suc, mul-mod_left, mul-add-div_right, mul-add-mod_self_right}
use native.Mathlib.Omega.{arith}
use lib.Dec.{eqb, ltb, lit<}
use lib.Pow.{pow_pos, pow-lt, pow_mono, pow-add, high, split as parts_of, field, mod-mod-pow, shl-shr, shr-shr, shr_lt, ones_split, le_ones, ones_sub-lt}
use lib.Bits.{bit_or, or_shr, or_mod}
use Rattle.config.specs.inner.Tests.{split, tests}
use Rattle.window.specs.Set.{has, top_of, bottom_of}
use Rattle.window.proofs.Words.{flip}
use Rattle.window.proofs.Ends.{top_is, top_unique, bottom_is, bottom_unique}

-- ---- none

pub has_above : (n k : ℕ) → n < 2 ^ k → has n k ≡ false
has_above n k h = ap (λ (x : ℕ). eqb (x % 2) 1) (div-eq_of_lt h)

pub has_pos : (n k : ℕ) → has n k ≡ true → 0 < n
has_pos n k e = pos_of_ne-zero (λ z. bad (sym (has_above n k (subst (λ (x : ℕ). x < 2 ^ k) (sym z) (pow_pos k))) ∙ e))
  where
    bad : false ≡ true → ⊥
    bad e = let z : ◌≡◌ {A = ℕ} 0 1 = cc in omega arith

-- ---- a set above d digits of another

module _ (m d r j : ℕ) where
  pub has_low : j < d → has (m * 2 ^ d + r) j ≡ has r j
  has_low l =
      let i : ℕ = d - j - 1 in
      let e : i + 1 + j ≡ d = omega arith in
      let up : m * 2 ^ d ≡ m * 2 ^ i * 2 * 2 ^ j =
      ap (λ (x : ℕ). m * 2 ^ x) (sym e) ∙ ap (λ (x : ℕ). m * x) (pow-add 2 (i + 1) j ∙ ap (λ (x : ℕ). x * 2 ^ j) (pow-add 2 i 1))
      ∙ sym (mul_assoc m (2 ^ i * 2) (2 ^ j)) ∙ ap (λ (x : ℕ). x * 2 ^ j) (sym (mul_assoc m (2 ^ i) 2)) in
      ap (λ (x : ℕ). eqb ((x + r) / 2 ^ j % 2) 1) up ∙ ap (λ (x : ℕ). eqb (x % 2) 1) (mul-add-div_right (pow_pos j) (m * 2 ^ i * 2) r)
      ∙ ap (λ (x : ℕ). eqb x 1) (mul-add-mod_self_right (m * 2 ^ i) 2 (r / 2 ^ j))

  pub has_high : r < 2 ^ d → d ≤ j → has (m * 2 ^ d + r) j ≡ has m (j - d)
  has_high b l =
      ap (λ (x : ℕ). eqb ((m * 2 ^ d + r) / 2 ^ x % 2) 1) (sym (add-sub_of_le l))
      ∙ ap (λ (x : ℕ). eqb (x % 2) 1) (sym (shr-shr (m * 2 ^ d + r) d (j - d)) ∙ ap (λ (x : ℕ). x / 2 ^ (j - d)) (high m d b))

-- ---- moved up, moved down, and cut

pub up_low : (n d j : ℕ) → j < d → has (n * 2 ^ d) j ≡ false
up_low n d j l = ap (λ (x : ℕ). has x j) (sym (add-zero (n * 2 ^ d))) ∙ has_low n d 0 j l ∙ has_above 0 j (pow_pos j)

pub up_high : (n d j : ℕ) → d ≤ j → has (n * 2 ^ d) j ≡ has n (j - d)
up_high n d j l = ap (λ (x : ℕ). has x j) (sym (add-zero (n * 2 ^ d))) ∙ has_high n d 0 j (pow_pos d) l

pub has_down : (n d k : ℕ) → has (n / 2 ^ d) k ≡ has n (d + k)
has_down n d k = ap (λ (x : ℕ). eqb (x % 2) 1) (shr-shr n d k)

pub has_cut : (n size k : ℕ) → k < size → has (n % 2 ^ size) k ≡ has n k
has_cut n size k h =
    let j : ℕ = size - k - 1 in
    let e : j + 1 + k ≡ size = omega arith in
    ap (λ (x : ℕ). eqb x 1)
    (ap (λ (y : ℕ). n % 2 ^ y / 2 ^ k % 2) (sym e) ∙ ap (λ (y : ℕ). y % 2) (field n (j + 1) k) ∙ mod-mod-pow (n / 2 ^ k) j 1)

-- ---- either

digit_or : (x y : ℕ) → x < 2 → y < 2 → eqb (bit_or x y) 1 ≡ (eqb x 1 || eqb y 1)
digit_or zero zero p q = refl
digit_or zero (suc zero) p q = refl
digit_or zero (suc (suc y)) p q = absurd (omega arith)
digit_or (suc zero) zero p q = refl
digit_or (suc zero) (suc zero) p q = refl
digit_or (suc zero) (suc (suc y)) p q = absurd (omega arith)
digit_or (suc (suc x)) y p q = absurd (omega arith)

pub has_or : (a b k : ℕ) → has (bit_or a b) k ≡ (has a k || has b k)
has_or a b k =
    ap (λ (x : ℕ). eqb x 1) (ap (λ (x : ℕ). x % 2) (or_shr a b k) ∙ or_mod (a / 2 ^ k) (b / 2 ^ k) 1)
    ∙ digit_or (a / 2 ^ k % 2) (b / 2 ^ k % 2) (mod-lt (a / 2 ^ k) (lit< tt)) (mod-lt (b / 2 ^ k) (lit< tt))

-- ---- the other positions below the size

-- a complement's lowest digit
not_digit : (m q : ℕ) → q < m * 2 → eqb ((m * 2 - 1 - q) % 2) 1 ≡ not (eqb (q % 2) 1)
not_digit m q h = go (q % 2) ((m * 2 - 1 - q) % 2) (omega arith) (omega arith)
  where
    go : (x y : ℕ) → x < 2 → x + y ≡ 1 → eqb y 1 ≡ not (eqb x 1)
    go zero y p e = subst (λ (z : ℕ). eqb z 1 ≡ true) (one e) refl
      where
        one : zero + y ≡ 1 → 1 ≡ y
        one e = omega arith
    go (suc zero) y p e = subst (λ (z : ℕ). eqb z 1 ≡ false) (none e) refl
      where
        none : suc zero + y ≡ 1 → 0 ≡ y
        none e = omega arith
    go (suc (suc x)) y p e = absurd (omega arith)

pub has_rest : (n size k : ℕ) → n < 2 ^ size → k < size → has ((2 ^ size - 1) - n) k ≡ not (has n k)
has_rest n size k h l =
    let j : ℕ = size - k - 1 in
    let e : j + 1 + k ≡ size = omega arith in
    let q : ℕ = n / 2 ^ k in
    let r : ℕ = n % 2 ^ k in
    let hq : q < 2 ^ (j + 1) = shr_lt (j + 1) k (subst (λ (x : ℕ). n < 2 ^ x) (sym e) h) in
    let two : 2 ^ (j + 1) ≡ 2 ^ j * 2 = pow-add 2 j 1 in
    let parts : (2 ^ size - 1) - n ≡ (2 ^ (j + 1) - 1 - q) * 2 ^ k + (2 ^ k - 1 - r) =
    ap₂ (λ (x y : ℕ). x - y) (ap (λ (x : ℕ). 2 ^ x - 1) (sym e) ∙ ones_split (j + 1) k) (sym (parts_of n k))
    ∙ sym (flip (2 ^ (j + 1) - 1) (2 ^ k - 1) (2 ^ k) q r (le_ones (j + 1) hq) (le_ones k (mod-lt n (pow_pos k)))) in
    let up : ((2 ^ size - 1) - n) / 2 ^ k ≡ 2 ^ j * 2 - 1 - q =
    ap (λ (x : ℕ). x / 2 ^ k) parts ∙ high (2 ^ (j + 1) - 1 - q) k (ones_sub-lt k r) ∙ ap (λ (x : ℕ). x - 1 - q) two in
    ap (λ (x : ℕ). eqb (x % 2) 1) up ∙ not_digit (2 ^ j) q (subst (λ (x : ℕ). q < x) two hq)

-- ---- the ends

pub has_top : (n : ℕ) → 0 < n → has n (top_of n) ≡ true
has_top n p =
    let t = top_is n p in
    let one : n / 2 ^ top_of n ≡ 1 =
    div-eq_of_lt-le (2 ^ top_of n) (le_trans (le_of_eq (one-mul (2 ^ top_of n))) t.0)
    (lt_of_lt_of_le t.1 (le_of_eq (pow-suc 2 (top_of n) ∙ mul_comm (2 ^ top_of n) 2))) in
    ap (λ (x : ℕ). eqb (x % 2) 1) one

pub has_top_above : (n k : ℕ) → 0 < n → top_of n < k → has n k ≡ false
has_top_above n k p h = ap (λ (x : ℕ). eqb (x % 2) 1) (div-eq_of_lt (lt_of_lt_of_le (top_is n p).1 (pow_mono h)))

pub has_bottom : (n : ℕ) → 0 < n → has n (bottom_of n) ≡ true
has_bottom n p =
    let b = bottom_is n p in
    ap (λ (x : ℕ). eqb (x % 2) 1) (ap (λ (x : ℕ). x / 2 ^ bottom_of n) b.1 ∙ shl-shr (b.0 * 2 + 1) (bottom_of n)) ∙ ap (λ (x : ℕ). eqb x 1) (mul-add-mod_self_right b.0 2 1)

pub has_bottom_below : (n k : ℕ) → 0 < n → k < bottom_of n → has n k ≡ false
has_bottom_below n k p h =
    let b = bottom_is n p in
    let x : ℕ = b.0 * 2 + 1 in
    let j : ℕ = bottom_of n - k - 1 in
    let e : j + 1 + k ≡ bottom_of n = omega arith in
    let even : n / 2 ^ k ≡ x * 2 ^ j * 2 =
    ap (λ (y : ℕ). y / 2 ^ k) (b.1 ∙ ap (λ (y : ℕ). x * 2 ^ y) (sym e) ∙ ap (λ (y : ℕ). x * y) (pow-add 2 (j + 1) k) ∙ sym (mul_assoc x (2 ^ (j + 1)) (2 ^ k)))
    ∙ shl-shr (x * 2 ^ (j + 1)) k ∙ ap (λ (y : ℕ). x * y) (pow-add 2 j 1) ∙ sym (mul_assoc x (2 ^ j) 2) in
    ap (λ (y : ℕ). eqb y 1) (ap (λ (y : ℕ). y % 2) even ∙ mul-mod_left (x * 2 ^ j) 2)

-- the highest and the lowest are what they are called
pub top_most : (n k : ℕ) → has n k ≡ true → k ≤ top_of n
top_most n k e = elim (split (ltb (top_of n) k)) [
  | inl l ↦
      let no : has n k ≡ false = has_top_above n k (has_pos n k e) (omega (arith, tests)) in
      let z : ◌≡◌ {A = ℕ} 0 1 = cc in
      omega arith
  | inr l ↦ omega (arith, tests)
]

pub bottom_least : (n k : ℕ) → has n k ≡ true → bottom_of n ≤ k
bottom_least n k e = elim (split (ltb k (bottom_of n))) [
  | inl l ↦
      let no : has n k ≡ false = has_bottom_below n k (has_pos n k e) (omega (arith, tests)) in
      let z : ◌≡◌ {A = ℕ} 0 1 = cc in
      omega arith
  | inr l ↦ omega (arith, tests)
]

-- ---- one position, and the lowest ones

pub has_pow : (k j : ℕ) → has (2 ^ k) j ≡ eqb j k
has_pow k j =
    let p : 0 < 2 ^ k = pow_pos k in
    let t : k ≡ top_of (2 ^ k) = top_unique (2 ^ k) k (le_refl (2 ^ k), pow-lt (le_refl (suc k))) in
    let b : k ≡ bottom_of (2 ^ k) = bottom_unique (2 ^ k) k p (0, sym (one-mul (2 ^ k))) in
    elim (split (eqb j k)) [
      | inl e ↦ let same : top_of (2 ^ k) ≡ j = omega (arith, tests) in ap (has (2 ^ k)) (sym same) ∙ has_top (2 ^ k) p ∙ sym e
      | inr e ↦ elim (split (ltb j k)) [
        | inl l ↦ has_bottom_below (2 ^ k) j p (omega (arith, tests)) ∙ sym e
        | inr l ↦ has_top_above (2 ^ k) j p (omega (arith, tests)) ∙ sym e
      ]
    ]

pub has_ones : (size k : ℕ) → k < size → has (2 ^ size - 1) k ≡ true
has_ones size k l = ap (λ (x : ℕ). has x k) (sym (sub-zero (2 ^ size - 1))) ∙ has_rest 0 size k (pow_pos size) l ∙ ap not (has_above 0 k (pow_pos k))
