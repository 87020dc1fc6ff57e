-- Tests and the facts that they stand for.
use Rattle.std.specs.Prelude.{◌≡◌, ℕ, zero, suc, ◌<◌, Bool, true, false, not, ◌&&◌, leb, ◌⊎◌, ◌==◌, nat_le, nat_lt, refl}
use Rattle.std.proofs.Common.{inl, inr, arith, ltb-true, ltb-false, leb-true, leb-false, eqb-true, lt-ltb, le-ltb, le-leb, eq-eqb, ne_eqb}
use Rattle.std.proofs.lemmas.Bool.{eqb-false, lt-leb}

-- for omega: from a test to its fact, and back
pub ruleset tests = (ltb-true, ltb-false, leb-true, leb-false, eqb-true, eqb-false)

pub ruleset lifts = (lt-ltb, le-ltb, le-leb, lt-leb, eq-eqb, ne_eqb)

pub split : (t : Bool) → (t ≡ true) ⊎ (t ≡ false)
split true = inl refl
split false = inr refl

pub and_left : (a b : Bool) → (a && b) ≡ true → a ≡ true
and_left true b e = refl
and_left false b e = e

pub and_right : (a b : Bool) → (a && b) ≡ true → b ≡ true
and_right true b e = e
and_right false b e = cc

pub ltb_not_leb : (a b : ℕ) → nat_lt a b ≡ not (nat_le b a)
ltb_not_leb a b = by (split (nat_lt a b))
  where
    by : (nat_lt a b ≡ true) ⊎ (nat_lt a b ≡ false) → nat_lt a b ≡ not (nat_le b a)
    by (inl e) = let f : leb b a ≡ false = omega (arith, tests, lifts) in cc
    by (inr e) = let f : leb b a ≡ true = omega (arith, tests, lifts) in cc

-- a test that holds of each figure below n, computed once
abbrev pub below : ℕ → (ℕ → Bool) → Bool
below zero t = true
below (suc n) t = t n && below n t

pub below_at : (n : ℕ) (t : ℕ → Bool) → below n t ≡ true → (i : ℕ) → i < n → t i ≡ true
below_at zero t e i h = absurd (let z : ⊥ = omega arith in z)
below_at (suc n) t e i h = by (split (i == n)) (below_at n t (and_right (t n) (below n t) e) i)
  where
    by : ((i == n) ≡ true) ⊎ ((i == n) ≡ false) → (i < n → t i ≡ true) → t i ≡ true
    by (inl q) go = let p : i ≡ n = omega (arith, tests) in rw p (and_left (t n) (below n t) e)
    by (inr q) go = go (omega (arith, tests))
