-- Maps of x to (x * a + b) % 2^32: one of them twice is one of them, so that a count can be halved.
use Rattle.std.proofs.Common.{◌≡◌, ℕ, zero, suc, ◌+◌, ◌*◌, ◌/◌, ◌%◌, ◌^◌, Bool, true, false, cond, eqb, sym, refl, ap, ◌∙◌, add_assoc, mul_assoc, mul_comm, add-mul, div-add-mod', arith, eqb-true}
use native.Mathlib.Nat.{mul-add-mod_self_right, mod-add-mod, add-mod-mod}
use borrow.Author.Tests.{eqb-false}
use Rattle.load.specs.Load.{iterate}

unfoldable pub mapped : ℕ → ℕ → ℕ → ℕ
mapped a b x = (x * a + b) % 2 ^ 32

-- ---- one map twice

-- a factor may be cut first, on either side
cut : (y k m : ℕ) → (y % m * k) % m ≡ (y * k) % m
cut y k m =
    sym (mul-add-mod_self_right (y / m * k) m (y % m * k))
    ∙ ap (λ (z : ℕ). (z + y % m * k) % m) (mul_assoc (y / m) k m ∙ ap (λ (z : ℕ). y / m * z) (mul_comm k m) ∙ sym (mul_assoc (y / m) m k))
    ∙ ap (λ (z : ℕ). z % m) (sym (add-mul (y / m * m) (y % m) k) ∙ ap (λ (z : ℕ). z * k) (div-add-mod' y m))

cut_right : (k y m : ℕ) → (k * (y % m)) % m ≡ (k * y) % m
cut_right k y m = ap (λ (z : ℕ). z % m) (mul_comm k (y % m)) ∙ cut y k m ∙ ap (λ (z : ℕ). z % m) (mul_comm y k)

-- the first term of a sum too
cut_sum : (p q b m : ℕ) → p % m ≡ q % m → (p + b) % m ≡ (q + b) % m
cut_sum p q b m e = sym (mod-add-mod p m b) ∙ ap (λ (z : ℕ). (z + b) % m) e ∙ mod-add-mod q m b

in_turn : (a b x m : ℕ) → ((x * a + b) % m * a + b) % m ≡ (x * ((a * a) % m) + (b * a + b) % m) % m
in_turn a b x m =
    cut_sum ((x * a + b) % m * a) ((x * a + b) * a) b m (cut (x * a + b) a m)
    ∙ ap (λ (z : ℕ). z % m) (ap (λ (z : ℕ). z + b) (add-mul (x * a) b a ∙ ap (λ (z : ℕ). z + b * a) (mul_assoc x a a)) ∙ add_assoc (x * (a * a)) (b * a) b)
    ∙ cut_sum (x * (a * a)) (x * ((a * a) % m)) (b * a + b) m (sym (cut_right x (a * a) m))
    ∙ sym (add-mod-mod (x * ((a * a) % m)) (b * a + b) m)

twice : (a b x : ℕ) → mapped a b (mapped a b x) ≡ mapped ((a * a) % 2 ^ 32) (mapped a b b) x
unfolding mapped
twice a b x = in_turn a b x (2 ^ 32)

-- ---- rounds

-- a step f, of which two are one of g
module _ (f g : ℕ → ℕ) (pair : (x : ℕ) → f (f x) ≡ g x) where
  doubled : (n x : ℕ) → iterate f (n + n) x ≡ iterate g n x
  unfolding iterate
  doubled zero x = refl
  doubled (suc n) x =
      let s : suc n + suc n ≡ suc (suc (n + n)) = omega arith in
      ap (λ (k : ℕ). iterate f k x) s ∙ doubled n (f (f x)) ∙ ap (iterate g n) (pair x)

  halved : (left x : ℕ) → iterate g (left / 2) (cond (eqb (left % 2) 1) (f x) x) ≡ iterate f left x
  unfolding iterate
  halved left x = go (eqb (left % 2) 1) refl
    where
      h : ℕ
      h = left / 2

      go : (t : Bool) → eqb (left % 2) 1 ≡ t → iterate g h (cond t (f x) x) ≡ iterate f left x
      go true t = let q = eqb-true (left % 2) 1 t in let s : suc (h + h) ≡ left = omega arith in sym (doubled h (f x)) ∙ ap (λ (k : ℕ). iterate f k x) s
      go false t = let q = eqb-false (left % 2) 1 t in let s : h + h ≡ left = omega arith in sym (doubled h x) ∙ ap (λ (k : ℕ). iterate f k x) s

pub round : (a b x left : ℕ) → iterate (mapped ((a * a) % 2 ^ 32) (mapped a b b)) (left / 2) (cond (eqb (left % 2) 1) (mapped a b x) x) ≡ iterate (mapped a b) left x
round a b x left = halved (mapped a b) (mapped ((a * a) % 2 ^ 32) (mapped a b b)) (twice a b) left x

pub ended : (f : ℕ → ℕ) (x left : ℕ) → left ≡ 0 → x ≡ iterate f left x
unfolding iterate
ended f x left e = rw e refl

-- ---- the code's steps
