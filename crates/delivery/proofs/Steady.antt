-- Commands that a receiver hears in step: each is the next one, or one that is not over 32,768 behind.
use Prim.Native.Nat.{ℕ, zero, suc, ◌+◌, ◌≤◌, ◌<◌, max}
use mathlib.Core.Path.{◌≡◌, refl, ap, sym}
use mathlib.Core.Logic.{inl, inr}
use mathlib.Core.List.{List, [], ◌∷◌, ◌++◌, append_assoc, append-nil}
use native.Mathlib.Omega.{arith}
use lib.Dec.{eqb}
use lib.ListN.{length, get_or, length-append}
use Rattle.config.specs.inner.Tests.{split, tests}
use Rattle.window.specs.Arrival.{reach}
use Rattle.delivery.specs.Commands.{Command}
use Rattle.delivery.specs.Positions.{numbered}
use Rattle.delivery.specs.Repeats.{commands_from}

-- the commands heard, in order, and how many positions they reach
pub data Steady (C : List (List ℕ)) : List Command → ℕ → Type 0 where
  still : Steady C [] 0
  up : {cs : List Command} {n : ℕ} → Steady C cs n → n < length C → Steady C (cs ++ (numbered n (get_or C n []) ∷ [])) (suc n)
  back : {cs : List Command} {n : ℕ} → Steady C cs n → (p : ℕ) → p < n → n ≤ p + (reach + 2) → Steady C (cs ++ (numbered p (get_or C p []) ∷ [])) n

-- positions one after the other, from one that is heard or next on
pub steady_from : (C : List (List ℕ)) (l p n : ℕ) (cs : List Command) → Steady C cs n → p ≤ n → n ≤ p + (reach + 2) → p + l ≤ length C
    → Steady C (cs ++ commands_from C p l) (max n (p + l))
steady_from C zero p n cs s a b c = let e : max n (p + 0) ≡ n = omega arith in rw (append-nil, e) s
steady_from C (suc l) p n cs s a b c = elim (split (eqb p n)) [
  | inl k ↦
      let at_n : p ≡ n = omega (arith, tests) in
      let e : max n (p + suc l) ≡ max (suc n) (suc p + l) = omega arith in
      rw (e, ← append_assoc cs (numbered p (get_or C p []) ∷ []))
      (steady_from C l (suc p) (suc n) (cs ++ (numbered p (get_or C p []) ∷ [])) (rw at_n (up s (omega arith))) (omega arith) (omega arith) (omega arith))
  | inr k ↦
      let e : max n (p + suc l) ≡ max n (suc p + l) = omega arith in
      rw (e, ← append_assoc cs (numbered p (get_or C p []) ∷ []))
      (steady_from C l (suc p) n (cs ++ (numbered p (get_or C p []) ∷ [])) (back s p (omega (arith, tests)) b) (omega (arith, tests)) (omega arith) (omega arith))
]

-- ---- the last command heard

last_same : {A : Type 0} (xs ys : List A) (x y : A) → xs ++ (x ∷ []) ≡ ys ++ (y ∷ []) → (xs ≡ ys) × (x ≡ y)
last_same [] [] x y e = (refl, cc)
last_same [] (b ∷ ys) x y e = absurd (let z : ⊥ = omega (arith, ap length e, length-append ys (y ∷ [])) in z)
last_same (a ∷ xs) [] x y e = absurd (let z : ⊥ = omega (arith, ap length e, length-append xs (x ∷ [])) in z)
last_same (a ∷ xs) (b ∷ ys) x y e =
    let h : a ≡ b = cc in
    let r = last_same xs ys x y (cc) in
    (rw (h, r.0), r.1)

-- it was the next, or it was behind
pub data Last (C : List (List ℕ)) (cs : List Command) (c : Command) : ℕ → Type 0 where
  was_up : {n : ℕ} → Steady C cs n → n < length C → c ≡ numbered n (get_or C n []) → Last C cs c (suc n)
  was_back : {n : ℕ} → Steady C cs n → (p : ℕ) → p < n → n ≤ p + (reach + 2) → c ≡ numbered p (get_or C p []) → Last C cs c n

pub last_of_lem : (C : List (List ℕ)) (ds cs : List Command) (c : Command) (n : ℕ) → Steady C ds n → ds ≡ cs ++ (c ∷ []) → Last C cs c n
last_of_lem C ds cs c n still e = absurd (let z : ⊥ = omega (arith, ap length e, length-append cs (c ∷ [])) in z)
last_of_lem C ds cs c m (up {cs = xs} {n = n} s l) e =
    let r = last_same xs cs (numbered n (get_or C n [])) c e in
    was_up (rw r.0 at s) l (sym r.1)
last_of_lem C ds cs c n (back {cs = xs} s p a b) e =
    let r = last_same xs cs (numbered p (get_or C p [])) c e in
    was_back (rw r.0 at s) p a b (sym r.1)

pub none_heard : (C : List (List ℕ)) (ds : List Command) (n : ℕ) → Steady C ds n → ds ≡ [] → n ≡ 0
none_heard C ds n still e = refl
none_heard C ds m (up {cs = xs} {n = n} s l) e = absurd (let z : ⊥ = omega (arith, ap length e, length-append xs (numbered n (get_or C n []) ∷ [])) in z)
none_heard C ds n (back {cs = xs} s p a b) e = absurd (let z : ⊥ = omega (arith, ap length e, length-append xs (numbered p (get_or C p []) ∷ [])) in z)
