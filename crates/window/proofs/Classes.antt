-- The class of a number by what is processed, and what the window is after it.
use mathlib.Core.Path.{◌≡◌, refl, ap, sym, ◌∙◌}
use mathlib.Core.Bool.{Bool, true, false, not, ◌&&◌, cond}
use Prim.Native.Nat.{ℕ, ◌-◌, ◌≤◌, ◌<◌}
use native.Mathlib.Omega.{arith}
use lib.Dec.{leb}
use borrow.Author.Tests.{le-leb, lt-leb}
use Rattle.config.specs.Range.{within}
use Rattle.config.specs.Sequence.{ahead}
use Rattle.window.specs.Window.{processed, is_processed}
use Rattle.window.specs.Arrival.{reach, class_of, taken_of, accept_of}
use Rattle.window.specs.declared.window.ReceiveWindow.{ReceiveWindow}
use Rattle.window.specs.declared.window.Class.{Class}
use Rattle.window.specs.declared.window.Class.TheVariants.{New, Late, Duplicate}
use Rattle.config.specs.inner.Ranges.{within_yes}
use Rattle.window.proofs.Positions.{unprocessed_in}

module _ (w : ReceiveWindow) (seq : ℕ) where
  abbrev d : ℕ
  d = ahead w.highest seq

  abbrev back : ℕ
  back = ahead seq w.highest

  pub accept_class : {c : Class} → class_of w seq ≡ c → accept_of w seq ≡ taken_of w seq c
  unfolding accept_of
  accept_class e = ap (taken_of w seq) e

  -- what is unprocessed is in the window, so that this test is enough
  pub class_is : class_of w seq ≡ cond (within 1 reach d) (New (d - 1)) (cond (processed w back) Duplicate Late)
  unfolding class_of
  class_is = ap (cond (within 1 reach d) (New (d - 1))) (behind_is (processed w back) refl)
    where
      behind_is : (t : Bool) → processed w back ≡ t → cond (within 1 w.size back && not (processed w back)) Late Duplicate ≡ cond (processed w back) Duplicate Late
      behind_is true e = rw e (none (within 1 w.size back))
        where
          none : (t : Bool) → cond (t && false) Late Duplicate ≡ Duplicate
          none true = refl
          none false = refl
      behind_is false e = let i = unprocessed_in w back e in rw (e, within_yes 1 w.size back i.0 i.1)

  -- ---- forward

  pub class_new_at : within 1 reach d ≡ true → class_of w seq ≡ New (d - 1)
  class_new_at e = class_is ∙ rw e

  module _ (e : within 1 reach d ≡ false) where
    pub class_late_at : processed w back ≡ false → class_of w seq ≡ Late
    class_late_at f = class_is ∙ rw (e, f)

    pub class_duplicate_at : processed w back ≡ true → class_of w seq ≡ Duplicate
    class_duplicate_at f = class_is ∙ rw (e, f)

  -- ---- back

  pub new_at : {gap : ℕ} → class_of w seq ≡ New gap → (within 1 reach d ≡ true) × (gap ≡ d - 1)
  new_at {gap} e = go (within 1 reach d) (processed w back) refl (sym class_is ∙ e)
    where
      go : (t p : Bool) → within 1 reach d ≡ t → cond t (New (d - 1)) (cond p Duplicate Late) ≡ New gap → (within 1 reach d ≡ true) × (gap ≡ d - 1)
      go true p f h = (f, cc)
      go false true f h = absurd (let z : ◌≡◌ {A = ℕ} 0 1 = cc in omega arith)
      go false false f h = absurd (let z : ◌≡◌ {A = ℕ} 0 1 = cc in omega arith)

  pub late_at_lem : class_of w seq ≡ Late → (within 1 reach d ≡ false) × (processed w back ≡ false)
  late_at_lem e = go (within 1 reach d) (processed w back) refl refl (sym class_is ∙ e)
    where
      go : (t p : Bool) → within 1 reach d ≡ t → processed w back ≡ p → cond t (New (d - 1)) (cond p Duplicate Late) ≡ Late → (within 1 reach d ≡ false) × (processed w back ≡ false)
      go true p f g h = absurd (let z : ◌≡◌ {A = ℕ} 0 1 = cc in omega arith)
      go false true f g h = absurd (let z : ◌≡◌ {A = ℕ} 0 1 = cc in omega arith)
      go false false f g h = (f, g)

  pub duplicate_at : class_of w seq ≡ Duplicate → (within 1 reach d ≡ false) × (processed w back ≡ true)
  duplicate_at e = go (within 1 reach d) (processed w back) refl refl (sym class_is ∙ e)
    where
      go : (t p : Bool) → within 1 reach d ≡ t → processed w back ≡ p → cond t (New (d - 1)) (cond p Duplicate Late) ≡ Duplicate → (within 1 reach d ≡ false) × (processed w back ≡ true)
      go true p f g h = absurd (let z : ◌≡◌ {A = ℕ} 0 1 = cc in omega arith)
      go false true f g h = (f, g)
      go false false f g h = absurd (let z : ◌≡◌ {A = ℕ} 0 1 = cc in omega arith)

-- ---- by what the code has at hand

module _ (w : ReceiveWindow) (seq : ℕ) {dist : ℕ} (ed : dist ≡ ahead w.highest seq) where
  pub classify_new : within 1 reach dist ≡ true → New (dist - 1) ≡ class_of w seq
  classify_new e = ap (λ (x : ℕ). New (x - 1)) ed ∙ sym (class_new_at w seq (ap (within 1 reach) (sym ed) ∙ e))

  module _ (e : within 1 reach dist ≡ false) {b : ℕ} (eb : b ≡ ahead seq w.highest) where
    pub classify_late : processed w b ≡ false → Late ≡ class_of w seq
    classify_late f = sym (class_late_at w seq (ap (within 1 reach) (sym ed) ∙ e) (ap (processed w) (sym eb) ∙ f))

    pub classify_duplicate : processed w b ≡ true → Duplicate ≡ class_of w seq
    classify_duplicate f = sym (class_duplicate_at w seq (ap (within 1 reach) (sym ed) ∙ e) (ap (processed w) (sym eb) ∙ f))

module _ (w : ReceiveWindow) (seq : ℕ) {b : ℕ} (eb : b ≡ ahead seq w.highest) where
  pub known_far : w.size < b → false ≡ is_processed w seq
  unfolding is_processed
  known_far l = let far : leb (ahead seq w.highest) w.size ≡ false = ap (λ (x : ℕ). leb x w.size) (sym eb) ∙ lt-leb _ _ l in rw far

  pub known_in : b ≤ w.size → processed w b ≡ is_processed w seq
  unfolding is_processed
  known_in l =
      let near : leb (ahead seq w.highest) w.size ≡ true = ap (λ (x : ℕ). leb x w.size) (sym eb) ∙ le-leb _ _ l in
      ap (processed w) eb ∙ rw near
