-- What is dropped of what was taken of a list.
use Rattle.std.specs.Prelude.{◌≡◌, List, [], ◌∷◌, ℕ, zero, suc, ◌+◌, ◌-◌, ◌≤◌, take, drop}
use Rattle.std.proofs.Common.{ap, ◌∙◌, arith}
use Rattle.std.proofs.Math.Seq.{take-nil}

pub drop_take : {A : Type 0} (k n : ℕ) (l : List A) → drop k (take (k + n) l) ≡ take n (drop k l)
drop_take zero n l = let e : 0 + n ≡ n = omega arith in rw e
drop_take (suc k) n [] = let e : suc k + n ≡ suc (k + n) = omega arith in rw (e, take-nil n)
drop_take (suc k) n (x ∷ l) = let e : suc k + n ≡ suc (k + n) = omega arith in rw e (drop_take k n l)

pub drop_taken : {A : Type 0} (k n : ℕ) (l : List A) → k ≤ n → drop k (take n l) ≡ take (n - k) (drop k l)
drop_taken {A} k n l h =
    let e : n ≡ k + (n - k) = omega arith in
    ap (λ (m : ℕ). drop k (take m l)) e ∙ drop_take k (n - k) l
