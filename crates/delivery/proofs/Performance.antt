-- Words, division and the positions of the Zero Length Commands settle a list of commands.
use Prim.Native.Nat.{ℕ, suc, ◌<◌}
use mathlib.Core.Path.{◌≡◌, refl, ap, sym, ◌∙◌}
use mathlib.Core.Logic.{◌↔◌}
use mathlib.Core.List.{List, [], ◌∷◌, ◌++◌}
use native.Mathlib.Omega.{arith}
use lib.ListN.{length}
use Rattle.command.specs.Messages.{words_in}
use Rattle.delivery.specs.Console.{Entry, accepted, positions}
use Rattle.delivery.specs.Performance.{lengths_in, empty_from, SamePerformance}

parts : (xs ys us vs : List ℕ) → length xs ≡ length ys → xs ++ us ≡ ys ++ vs → (xs ≡ ys) × (us ≡ vs)
parts [] [] us vs l e = (refl, e)
parts [] (y ∷ ys) us vs l e = absurd (let z : ⊥ = omega arith in z)
parts (x ∷ xs) [] us vs l e = absurd (let z : ⊥ = omega arith in z)
parts (x ∷ xs) (y ∷ ys) us vs l e =
    let h : x ≡ y = cc in
    let r = parts xs ys us vs (omega arith) (cc) in
    (rw (h, r.0), r.1)

-- those from p on are not below p
not_before : (C : List (List ℕ)) (p x : ℕ) (xs : List ℕ) → x < p → x ∷ xs ≡ empty_from p C → ⊥
not_before [] p x xs l e = omega (arith, ap length e)
not_before ([] ∷ C) p x xs l e = let m : x ≡ p = cc in omega arith
not_before ((w ∷ ws) ∷ C) p x xs l e = not_before C (suc p) x xs (omega arith) e

same_commands : (C D : List (List ℕ)) (p : ℕ) → words_in C ≡ words_in D → lengths_in C ≡ lengths_in D → empty_from p C ≡ empty_from p D → C ≡ D
unfolding words_in
same_commands [] [] p w d z = refl
same_commands [] ([] ∷ D) p w d z = absurd (let y : ⊥ = omega (arith, ap length z) in y)
same_commands [] ((b ∷ bs) ∷ D) p w d z = absurd (let y : ⊥ = omega (arith, ap length d) in y)
same_commands ([] ∷ C) [] p w d z = absurd (let y : ⊥ = omega (arith, ap length z) in y)
same_commands ((a ∷ vs) ∷ C) [] p w d z = absurd (let y : ⊥ = omega (arith, ap length d) in y)
same_commands ([] ∷ C) ([] ∷ D) p w d z = ap (λ (E : List (List ℕ)). [] ∷ E) (same_commands C D (suc p) w d (cc))
same_commands ([] ∷ C) ((b ∷ bs) ∷ D) p w d z = absurd (not_before D (suc p) p (empty_from (suc p) C) (omega arith) z)
same_commands ((a ∷ vs) ∷ C) ([] ∷ D) p w d z = absurd (not_before C (suc p) p (empty_from (suc p) D) (omega arith) (sym z))
same_commands ((a ∷ vs) ∷ C) ((b ∷ bs) ∷ D) p w d z =
    let l : length (a ∷ vs) ≡ length (b ∷ bs) = cc in
    let r = parts (a ∷ vs) (b ∷ bs) (words_in C) (words_in D) l w in
    let q : C ≡ D = same_commands C D (suc p) r.1 (cc) z in
    rw (r.0, q)

-- equal performances, where all that was accepted is written: equal positions
pub same_positions : (t s : List Entry) → words_in (positions t) ≡ accepted t → words_in (positions s) ≡ accepted s → SamePerformance t s ↔ (positions t ≡ positions s)
same_positions t s m n = (
  λ e. same_commands (positions t) (positions s) 0 (m ∙ e.same_messages ∙ sym n) e.same_division e.same_zero_length,
  λ e. record { same_messages = sym m ∙ ap words_in e ∙ n; same_division = ap lengths_in e; same_zero_length = ap (empty_from 0) e },
)
