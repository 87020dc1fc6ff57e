-- Lists all of whose elements have a property.
use Prim.Native.Nat.{ℕ, zero, suc, ◌-◌, ◌≤◌, ◌<◌}
use mathlib.Core.Path.{◌≡◌, refl, ap}
use mathlib.Core.List.{List, [], ◌∷◌, ◌++◌}
use native.Mathlib.Omega.{arith}
use lib.ListN.{length, take, drop, get_or}

abbrev pub All : {A : Type 0} → (A → Type 0) → List A → Type 0
All P [] = Unit {0}
All P (x ∷ xs) = P x × All P xs

module _ {A : Type 0} (P : A → Type 0) where
  pub all_append : (xs ys : List A) → All P xs → All P ys → All P (xs ++ ys)
  all_append [] ys h k = k
  all_append (x ∷ xs) ys h k = (h.0, all_append xs ys h.1 k)

  pub all_right : (xs ys : List A) → All P (xs ++ ys) → All P ys
  all_right [] ys h = h
  all_right (x ∷ xs) ys h = all_right xs ys h.1

  pub all_take : (n : ℕ) (xs : List A) → All P xs → All P (take n xs)
  all_take zero xs h = tt
  all_take (suc n) [] h = tt
  all_take (suc n) (x ∷ xs) h = (h.0, all_take n xs h.1)

  pub all_drop : (n : ℕ) (xs : List A) → All P xs → All P (drop n xs)
  all_drop zero xs h = h
  all_drop (suc n) [] h = tt
  all_drop (suc n) (x ∷ xs) h = all_drop n xs h.1

  pub all_at : (xs : List A) (i : ℕ) (d : A) → i < length xs → All P xs → P (get_or xs i d)
  all_at [] i d l h = absurd (let z : ⊥ = omega arith in z)
  all_at (x ∷ xs) zero d l h = h.0
  all_at (x ∷ xs) (suc i) d l h = all_at xs i d (omega arith) h.1

module _ {A : Type 0} where
  pub length_none : (xs : List A) → length xs ≤ 0 → xs ≡ []
  length_none [] l = refl
  length_none (x ∷ xs) l = absurd (let z : ⊥ = omega arith in z)

  pub take_append : (n : ℕ) (xs ys : List A) → take n (xs ++ ys) ≡ take n xs ++ take (n - length xs) ys
  take_append zero xs ys = let z : 0 - length xs ≡ 0 = omega arith in rw z
  take_append (suc n) [] ys = let z : suc n - 0 ≡ suc n = omega arith in rw z
  take_append (suc n) (x ∷ xs) ys =
      let m : suc n - suc (length xs) ≡ n - length xs = omega arith in
      rw m (ap (λ (zs : List A). x ∷ zs) (take_append n xs ys))
