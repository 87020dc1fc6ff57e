-- Binary digits: halving takes one off.
use Rattle.std.proofs.Common.{◌≡◌, ℕ, zero, suc, ◌+◌, ◌*◌, ◌/◌, ◌^◌, ◌<◌, ◌≤◌, ◌⊎◌, refl, ap, inl, inr, suc-le-suc, zero-le, le_refl, not-suc-le-zero, eq-zero-or-pos, pow-suc, arith}
use lib.Arith.{half_le}
use Rattle.load.specs.Load.{digits_in, digits_of}

-- looking at more digits than there are changes nothing
same : (f g n : ℕ) → n ≤ f → n ≤ g → digits_in f n ≡ digits_in g n
unfolding digits_in
same zero zero n p q = refl
same zero (suc g) zero p q = refl
same zero (suc g) (suc n) p q = absurd (not-suc-le-zero p)
same (suc f) zero zero p q = refl
same (suc f) zero (suc n) p q = absurd (not-suc-le-zero q)
same (suc f) (suc g) zero p q = refl
same (suc f) (suc g) (suc n) p q = ap suc (same f g (suc n / 2) (half_le p) (half_le q))

pub digits_half : (n : ℕ) → 0 < n → digits_of n ≡ digits_of (n / 2) + 1
unfolding digits_of digits_in
digits_half zero p = absurd (not-suc-le-zero p)
digits_half (suc n) p =
    let e = same n (suc n / 2) (suc n / 2) (half_le (le_refl (suc n))) (le_refl (suc n / 2)) in omega arith

-- a number below 2 ^ k has at most k digits
digits_le : (f k n : ℕ) → n < 2 ^ k → digits_in f n ≤ k
unfolding digits_in
digits_le zero k n h = zero-le
digits_le (suc f) k zero h = zero-le
digits_le (suc f) zero (suc n) h = absurd (let z : ⊥ = omega arith in z)
digits_le (suc f) (suc k) (suc n) h = suc-le-suc (digits_le f k (suc n / 2) (let e = pow-suc 2 k in omega arith))

-- n digits are enough to look at, and the number of digits is no larger than it has to be
digits_enough : (f n : ℕ) → n ≤ f → n < 2 ^ digits_in f n
unfolding digits_in
digits_enough zero n p = omega arith
digits_enough (suc f) zero p = omega arith
digits_enough (suc f) (suc n) p =
    let d = digits_in f (suc n / 2) in
    let h = digits_enough f (suc n / 2) (half_le p) in
    let e = pow-suc 2 d in omega arith

digits_zero : (f : ℕ) → digits_in f 0 ≡ 0
unfolding digits_in
digits_zero zero = refl
digits_zero (suc f) = refl

digits_needed : (f n : ℕ) → 0 < n → 2 ^ digits_in f n ≤ 2 * n
unfolding digits_in
digits_needed zero n p = omega arith
digits_needed (suc f) zero p = absurd (not-suc-le-zero p)
digits_needed (suc f) (suc n) p = go (digits_needed f (suc n / 2)) (eq-zero-or-pos (suc n / 2))
  where
    go : (0 < suc n / 2 → 2 ^ digits_in f (suc n / 2) ≤ 2 * (suc n / 2)) → (suc n / 2 ≡ 0) ⊎ (0 < suc n / 2) → 2 ^ suc (digits_in f (suc n / 2)) ≤ 2 * suc n
    go rest (inl e) = rw (e, digits_zero) (omega arith)
    go rest (inr q) = let h = rest q in let e = pow-suc 2 (digits_in f (suc n / 2)) in omega arith

-- ---- of the whole number
pub digits_none : (n : ℕ) → n ≡ 0 → digits_of n ≡ 0
unfolding digits_of
digits_none n e = rw e (digits_zero 0)

pub few : (n : ℕ) → n ≤ 65535 → digits_of n ≤ 16
unfolding digits_of
few n h = digits_le n 16 n (omega arith)

pub enough : (n : ℕ) → n < 2 ^ digits_of n
unfolding digits_of
enough n = digits_enough n n (le_refl n)

pub needed : (n : ℕ) → 0 < n → 2 ^ digits_of n ≤ 2 * n
unfolding digits_of
needed n p = digits_needed n n p
