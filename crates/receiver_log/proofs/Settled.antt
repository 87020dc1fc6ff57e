-- A place is settled if it is before position 0, was handed on, or lies in a reported loss.
use Prim.Native.Nat.{ℕ, suc, ◌≤◌, ◌<◌}
use mathlib.Core.Path.{◌≡◌, refl}
use mathlib.Core.Logic.{◌⊎◌, inl, inr}
use mathlib.Core.Bool.{Bool, true, false, not, ◌||◌, ◌&&◌}
use mathlib.Core.List.{List, [], ◌∷◌}
use native.Mathlib.Omega.{arith}
use lib.Dec.{ltb, leb, eqb}
use Rattle.config.specs.inner.Tests.{split, tests, lifts, and_left, and_right}
use Rattle.receiver_log.specs.Log.{Report, loss_of, origin, high, hands_on, times, in_loss, lost, unprocessed}
use Rattle.config.specs.inner.Choices.{never, unless, not_true, or_left, or_right}

abbrev pub settled : List Report → ℕ → Bool
settled [] x = ltb x origin
settled (e ∷ t) x = in_loss (high (e ∷ t)) (loss_of e) x || (hands_on (high t) e x || settled t x)

pub open_is : (t : List Report) (x : ℕ) → settled t x ≡ false → (origin ≤ x) × (times t x ≡ 0) × (lost t x ≡ false)
open_is [] x e = (omega (arith, tests), refl, refl)
open_is (r ∷ t) x e =
    let a : in_loss (high (r ∷ t)) (loss_of r) x ≡ false = or_left _ _ e in
    let s : (hands_on (high t) r x || settled t x) ≡ false = or_right (in_loss (high (r ∷ t)) (loss_of r) x) _ e in
    let b : hands_on (high t) r x ≡ false = or_left _ _ s in
    let h = open_is t x (or_right (hands_on (high t) r x) _ s) in
    (h.0, rw b h.1, rw a h.2)

pub is_open : (t : List Report) (x : ℕ) → origin ≤ x → times t x ≡ 0 → lost t x ≡ false → settled t x ≡ false
is_open [] x l e f = omega (arith, lifts)
is_open (r ∷ t) x l e f = go (split (hands_on (high t) r x)) (is_open t x l)
  where
    go : (hands_on (high t) r x ≡ true) ⊎ (hands_on (high t) r x ≡ false) → (times t x ≡ 0 → lost t x ≡ false → settled t x ≡ false) → settled (r ∷ t) x ≡ false
    go (inl b) before = let z : suc (times t x) ≡ 0 = rw b at e in absurd (let y : ⊥ = omega arith in y)
    go (inr b) before =
        let a : in_loss (high (r ∷ t)) (loss_of r) x ≡ false = or_left _ _ f in
        let s : settled t x ≡ false = before (rw b at e) (or_right (in_loss (high (r ∷ t)) (loss_of r) x) _ f) in
        rw (a, b) s

-- what is unprocessed by the log is what is not settled
pub unprocessed_is : (t : List Report) (x : ℕ) → unprocessed t x ≡ not (settled t x)
unfolding unprocessed
unprocessed_is t x = elim (split (settled t x)) [
  | inl e ↦ rw e (unless (unprocessed t x) (λ u. no u e))
  | inr e ↦
      let h = open_is t x e in
      let a : leb origin x ≡ true = omega (arith, lifts, h.0) in
      let b : eqb (times t x) 0 ≡ true = omega (arith, lifts, h.1) in
      rw (e, a, b, h.2)
]
  where
    no : unprocessed t x ≡ true → settled t x ≡ true → ⊥
    no f e =
        let rest : (eqb (times t x) 0 && not (lost t x)) ≡ true = and_right (leb origin x) _ f in
        let l : leb origin x ≡ true = and_left (leb origin x) _ f in
        let z : eqb (times t x) 0 ≡ true = and_left (eqb (times t x) 0) _ rest in
        never e (is_open t x (omega (arith, tests)) (omega (arith, tests)) (not_true (lost t x) (and_right (eqb (times t x) 0) _ rest)))

-- before position 0 all is processed
pub before_0 : (t : List Report) (x : ℕ) → x < origin → unprocessed t x ≡ false
unfolding unprocessed
before_0 t x l = let e : leb origin x ≡ false = omega (arith, lifts) in rw e
