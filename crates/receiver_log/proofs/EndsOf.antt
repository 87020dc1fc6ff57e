-- The ends of a test: it holds at both, and wherever it holds lies between them.
use Prim.Native.Nat.{ℕ, zero, suc, ◌+◌, ◌≤◌, ◌<◌}
use mathlib.Core.Path.{◌≡◌, refl}
use mathlib.Core.Logic.{inl, inr}
use mathlib.Core.Bool.{Bool, true, false, cond}
use native.Mathlib.Omega.{arith}
use lib.Dec.{eqb}
use Rattle.config.specs.inner.Tests.{split, tests}
use Rattle.receiver_log.specs.Spans.{Ends, none, ends, widen, ends_of}
use Rattle.config.specs.inner.Choices.{never}

abbrev pub EndsOk : (ℕ → Bool) → ℕ → ℕ → Ends → Type 0
EndsOk f low n none = (b : ℕ) → low ≤ b → b < low + n → f b ≡ false
EndsOk f low n (ends x y) = record {
  from : low ≤ x;
  order : x ≤ y;
  to : y < low + n;
  newest : f x ≡ true;
  oldest : f y ≡ true;
  all : (b : ℕ) → low ≤ b → b < low + n → f b ≡ true → (x ≤ b) × (b ≤ y);
}

module _ (f : ℕ → Bool) (low n : ℕ) where
  one_more : (t : Bool) → f (low + n) ≡ t → (s : Ends) → EndsOk f low n s → EndsOk f low (suc n) (cond t (widen (low + n) s) s)
  one_more false e none h = λ b p q. elim (split (eqb b (low + n))) [
    | inl k ↦ let i : b ≡ low + n = omega (arith, tests) in cc
    | inr k ↦ h b p (omega (arith, tests))
  ]
  one_more false e (ends x y) h = record {
    from = h.from;
    order = h.order;
    to = omega arith;
    newest = h.newest;
    oldest = h.oldest;
    all = λ b p q r. elim (split (eqb b (low + n))) [
      | inl k ↦ let i : b ≡ low + n = omega (arith, tests) in let g : f b ≡ false = cc in absurd (never r g)
      | inr k ↦ h.all b p (omega (arith, tests)) r
    ];
  }
  one_more true e none h = record {
    from = omega arith;
    order = omega arith;
    to = omega arith;
    newest = e;
    oldest = e;
    all = λ b p q r. elim (split (eqb b (low + n))) [
      | inl k ↦ omega (arith, tests)
      | inr k ↦ absurd (never r (h b p (omega (arith, tests))))
    ];
  }
  one_more true e (ends x y) h = record {
    from = h.from;
    order = omega arith;
    to = omega arith;
    newest = h.newest;
    oldest = e;
    all = λ b p q r. elim (split (eqb b (low + n))) [
      | inl k ↦ omega (arith, tests)
      | inr k ↦ let i : (x ≤ b) × (b ≤ y) = h.all b p (omega (arith, tests)) r in omega arith
    ];
  }

pub ends_ok : (f : ℕ → Bool) (low n : ℕ) → EndsOk f low n (ends_of f low n)
unfolding ends_of
ends_ok f low zero = λ b p q. absurd (let z : ⊥ = omega arith in z)
ends_ok f low (suc n) = one_more f low n (f (low + n)) refl (ends_of f low n) (ends_ok f low n)
