-- A span reaches from the highest to the lowest position of its set, and is Nothing where there is none.
use mathlib.Core.Path.{◌≡◌, refl, sym, ◌∙◌}
use Rattle.std.proofs.Common.{Some, None}
use mathlib.Core.Bool.{Bool, true, false}
use Prim.Native.Nat.{ℕ, zero, suc, ◌+◌, ◌-◌, ◌<◌}
use native.Mathlib.Omega.{arith}
use lib.Dec.{eqb}
use borrow.Author.Tests.{eq-eqb, ne_eqb}
use Rattle.window.specs.Set.{has, top_of, bottom_of}
use Rattle.window.specs.Window.{behind, span_of}
use Rattle.window.proofs.Digits.{has_pos, has_top}

module _ (h base m : ℕ) where
  pub span_of_lem : (k : ℕ) → has m k ≡ true → span_of h base m ≡ Some record { first = behind h (base + top_of m + 1); count = top_of m - bottom_of m + 1 }
  unfolding span_of
  span_of_lem k e = let p : 0 < m = has_pos m k e in let some : eqb m 0 ≡ false = ne_eqb m 0 (λ z. omega arith) in rw some

  pub span_nothing : ((k : ℕ) → has m k ≡ false) → span_of h base m ≡ None
  unfolding span_of
  span_nothing f = go m refl
    where
      go : (n : ℕ) → m ≡ n → span_of h base m ≡ None
      go zero e = rw (eq-eqb m 0 e)
      go (suc n) e =
          let p : 0 < m = omega arith in
          let t : has m (top_of m) ≡ true = has_top m p in
          let f : has m (top_of m) ≡ false = f (top_of m) in
          absurd (let z : ◌≡◌ {A = ℕ} 0 1 = cc in omega arith)

  pub nothing_has : span_of h base m ≡ None → (k : ℕ) → has m k ≡ false
  nothing_has e k = go (has m k) refl
    where
      go : (t : Bool) → has m k ≡ t → has m k ≡ false
      go true f = absurd (let s = sym (span_of_lem k f) ∙ e in let z : ◌≡◌ {A = ℕ} 0 1 = cc in omega arith)
      go false f = f
