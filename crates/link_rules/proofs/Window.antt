-- A window with nothing missing hears a number that brings no gap: nothing is missing after it.
use mathlib.Core.Path.{◌≡◌, refl, sym, ap, ◌∙◌}
use mathlib.Core.Bool.{true, false}
use Prim.Native.Nat.{ℕ, ◌+◌, ◌-◌, ◌*◌, ◌/◌, ◌%◌, ◌^◌}
use native.Mathlib.Omega.{arith}
use lib.Dec.{ltb}
use lib.Pow.{pow_pos}
use borrow.Author.Tests.{eq-eqb, eqb-true, lt-ltb}
use Rattle.config.specs.Sequence.{ahead}
use Rattle.config.specs.inner.Tests.{tests}
use Rattle.window.specs.Set.{has, val, set_of}
use Rattle.window.specs.Window.{Valid, fresh_of, processed, missing_of}
use Rattle.window.specs.Arrival.{reach, new_of, in_order, accept_of, class_of}
use Rattle.window.specs.declared.window.ReceiveWindow.{ReceiveWindow}
use Rattle.window.specs.declared.window.Arrival.{Arrival}
use Rattle.window.specs.declared.window.Class.{Class}
use Rattle.window.specs.declared.window.Class.TheVariants.{New, Late, Duplicate}
use Rattle.config.specs.inner.Ranges.{within_range}
use Rattle.window.proofs.Digits.{has_above}
use Rattle.window.proofs.Positions.{unprocessed_in, has_missing}
use Rattle.window.proofs.Classes.{accept_class, new_at, late_at_lem}
use Rattle.window.proofs.InOrder.{in_order_complete}
use Rattle.receiver.specs.Receiver.{is_gap, nothing_missing}

module _ (w : ReceiveWindow) (v : Valid w) (none : nothing_missing w ≡ true) (seq : ℕ) where
  -- no number is Late
  not_late : class_of w seq ≡ Late → ⊥
  not_late e =
      let back : ℕ = ahead seq w.highest in
      let f : processed w back ≡ false = (late_at_lem w seq e).1 in
      let i = unprocessed_in w back f in
      let at : back - 1 + 1 ≡ back = omega (arith, i.0) in
      let low : ltb (back - 1) w.size ≡ true = lt-ltb (back - 1) w.size (omega (arith, i.0, i.1)) in
      let zero : missing_of w ≡ 0 = eqb-true _ _ none in
      let no : has (missing_of w) (back - 1) ≡ false = ap (λ (m : ℕ). has m (back - 1)) zero ∙ has_above 0 (back - 1) (pow_pos (back - 1)) in
      let yes : has (missing_of w) (back - 1) ≡ true = has_missing w v (back - 1) ∙ rw (low, at, f) in
      let z : ◌≡◌ {A = ℕ} 0 1 = cc in
      omega arith

  pub complete_after : is_gap (accept_of w seq).class ≡ false → nothing_missing (accept_of w seq).window ≡ true
  unfolding new_of in_order
  complete_after g = go (class_of w seq) refl
    where
      go : (c : Class) → class_of w seq ≡ c → nothing_missing (accept_of w seq).window ≡ true
      go (New gap) e =
          let a : accept_of w seq ≡ new_of w seq (gap + 1) = accept_class w seq e in
          let zero : ltb 0 (gap + 1 - 1) ≡ false = sym (ap (λ (t : Arrival). is_gap t.class) a) ∙ g in
          let n = new_at w seq e in
          let r = within_range 1 reach (ahead w.highest seq) n.0 in
          let one : ahead w.highest seq ≡ 1 = omega (arith, tests, zero, n.1, r.0) in
          in_order_complete w v seq (rw (eq-eqb (ahead w.highest seq) 1 one, none))
      go Late e = absurd (not_late e)
      go Duplicate e = rw (accept_class w seq e) none

pub full_missing : (size highest : ℕ) → nothing_missing (fresh_of size highest) ≡ true
unfolding missing_of val set_of
full_missing size highest = eq-eqb _ _ (same (2 ^ size - 1))
  where
    same : (n : ℕ) → n - (n / 2 ^ 64 * 2 ^ 64 + n % 2 ^ 64) ≡ 0
    same n = omega arith
