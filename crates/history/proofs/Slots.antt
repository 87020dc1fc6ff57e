-- Places of a ring: where they lie, and how they add up.
use Rattle.std.proofs.Common.{◌≡◌, ℕ, ◌+◌, ◌-◌, ◌<◌, ◌≤◌, true, false, ltb, ◌⊎◌, sym, inl, inr, ⊎_elim, arith, ltb-false, ltb-true, le-ltb, lt-ltb}
use Rattle.config.specs.inner.Tests.{split}
use Rattle.history.specs.Ring.{slot_of}

pub slot_below : (c i n : ℕ) → i + n < c → i + n ≡ slot_of c i n
unfolding slot_of
slot_below c i n h = simp (lt-ltb (i + n) c h)

pub slot_round : (c i n : ℕ) → c ≤ i + n → i + n - c ≡ slot_of c i n
unfolding slot_of
slot_round c i n h = simp (le-ltb (i + n) c h)

-- one number is below another, or not
pub lt_or_ge : (a b : ℕ) → (a < b) ⊎ (b ≤ a)
lt_or_ge a b = ⊎_elim (λ (e : ltb a b ≡ true). inl (ltb-true a b e)) (λ (e : ltb a b ≡ false). inr (ltb-false a b e)) (split (ltb a b))

-- the number that a place is, by the side of the end that it lies on
pub slot_is : (c i n : ℕ) → ((i + n < c) × (slot_of c i n ≡ i + n)) ⊎ ((c ≤ i + n) × (slot_of c i n ≡ i + n - c))
slot_is c i n =
    ⊎_elim
    (λ (p : i + n < c). inl (p, sym (slot_below c i n p)))
    (λ (p : c ≤ i + n). inr (p, sym (slot_round c i n p)))
    (lt_or_ge (i + n) c)

pub slot_in : (c i n : ℕ) → i < c → n ≤ c → slot_of c i n < c
slot_in c i n p q = ⊎_elim (λ r. omega arith) (λ r. omega arith) (slot_is c i n)

pub slot_zero : (c i : ℕ) → i < c → slot_of c i 0 ≡ i
slot_zero c i p = ⊎_elim (λ r. omega arith) (λ r. omega arith) (slot_is c i 0)

-- a place j after i, by the words between them
pub slot_from : (c i j n : ℕ) → i ≤ j → slot_of c i (j + n - i) ≡ slot_of c j n
unfolding slot_of
slot_from c i j n l = let e : i + (j + n - i) ≡ j + n = omega arith in rw e

pub slot_to : (c i j : ℕ) → i ≤ j → j < c → slot_of c i (j - i) ≡ j
slot_to c i j p q = ⊎_elim (λ r. omega arith) (λ r. omega arith) (slot_is c i (j - i))

-- places add up
pub slot_add : (c i m n : ℕ) → i < c → m + n ≤ c → slot_of c (slot_of c i m) n ≡ slot_of c i (m + n)
slot_add c i m n p q =
    ⊎_elim
    (λ r. ⊎_elim (λ s. ⊎_elim (λ t. omega arith) (λ t. omega arith) whole) (λ s. ⊎_elim (λ t. omega arith) (λ t. omega arith) whole) again)
    (λ r. ⊎_elim (λ s. ⊎_elim (λ t. omega arith) (λ t. omega arith) whole) (λ s. ⊎_elim (λ t. omega arith) (λ t. omega arith) whole) again)
    (slot_is c i m)
  where
    again : ((slot_of c i m + n < c) × (slot_of c (slot_of c i m) n ≡ slot_of c i m + n)) ⊎ ((c ≤ slot_of c i m + n) × (slot_of c (slot_of c i m) n ≡ slot_of c i m + n - c))
    again = slot_is c (slot_of c i m) n

    whole : ((i + (m + n) < c) × (slot_of c i (m + n) ≡ i + (m + n))) ⊎ ((c ≤ i + (m + n)) × (slot_of c i (m + n) ≡ i + (m + n) - c))
    whole = slot_is c i (m + n)

-- different places, as long as they are less than once round apart
pub slot_apart : (c i m n : ℕ) → i < c → m < n → n < c → slot_of c i m ≡ slot_of c i n → ⊥
slot_apart c i m n p q r e =
    ⊎_elim
    (λ u. ⊎_elim (λ v. omega arith) (λ v. omega arith) (slot_is c i n))
    (λ u. ⊎_elim (λ v. omega arith) (λ v. omega arith) (slot_is c i n))
    (slot_is c i m)
