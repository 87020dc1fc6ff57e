-- The next number, with nothing missing before it: it leaves a window with nothing missing.
use mathlib.Core.Path.{◌≡◌, refl, sym, ap, ◌∙◌}
use Rattle.std.proofs.Common.{None}
use mathlib.Core.Bool.{true, false}
use Prim.Native.Nat.{ℕ, ◌+◌, ◌-◌, ◌*◌, ◌%◌, ◌^◌, ◌<◌}
use native.Mathlib.Nat.{mul-one}
use native.Mathlib.Omega.{arith}
use lib.Dec.{eqb}
use lib.Pow.{pow_pos, low, ones_lt}
use borrow.Author.Tests.{eq-eqb, ne_eqb, eqb-true}
use Rattle.config.specs.Sequence.{ahead}
use Rattle.config.specs.inner.Tests.{and_left, and_right}
use Rattle.window.specs.Set.{val, set_of}
use Rattle.window.specs.Window.{Valid, missing_of}
use Rattle.window.specs.Arrival.{reach, moved_of, new_of, in_order, accept_of}
use Rattle.window.specs.declared.window.ReceiveWindow.{ReceiveWindow}
use Rattle.window.specs.declared.window.Arrival.{Arrival}
use Rattle.window.specs.declared.window.Class.TheVariants.{New}
use Rattle.window.proofs.Words.{of_words, val_of}
use Rattle.config.specs.inner.Ranges.{within_yes}
use Rattle.window.proofs.Losses.{loss_empty}
use Rattle.window.proofs.Arrivals.{new_window_is, new_lost_is}
use Rattle.window.proofs.Accepts.{accept_as_new, taken_is}

-- ---- the test

module _ (w : ReceiveWindow) (seq : ℕ) {dist : ℕ} (ed : dist ≡ ahead w.highest seq) where
  pub in_order_next : dist ≡ 1 → eqb (missing_of w) 0 ≡ in_order w seq
  unfolding in_order
  in_order_next e = let next : eqb (ahead w.highest seq) 1 ≡ true = eq-eqb _ _ (sym ed ∙ e) in rw next

  pub in_order_other : (dist ≡ 1 → ⊥) → false ≡ in_order w seq
  unfolding in_order
  in_order_other f = let other : eqb (ahead w.highest seq) 1 ≡ false = ne_eqb _ _ (λ z. f (ed ∙ z)) in rw other

-- ---- what follows from it

module _ (w : ReceiveWindow) (v : Valid w) (seq : ℕ) (e : in_order w seq ≡ true) where
  next : ahead w.highest seq ≡ 1
  unfolding in_order
  next = eqb-true _ _ (and_left (eqb (ahead w.highest seq) 1) (eqb (missing_of w) 0) e)

  none : missing_of w ≡ 0
  unfolding in_order
  none = eqb-true _ _ (and_right (eqb (ahead w.highest seq) 1) (eqb (missing_of w) 0) e)

  all : val w.bits ≡ 2 ^ w.size - 1
  unfolding missing_of
  all = full (2 ^ w.size) (val w.bits) v.inside none
    where
      full : (p n : ℕ) → n < p → p - 1 - n ≡ 0 → n ≡ p - 1
      full p n l z = omega arith

  moved : moved_of w.size (val w.bits) 1 ≡ 2 ^ w.size - 1
  unfolding moved_of
  moved =
      ap (λ (x : ℕ). ((x * 2 + 1) * 2 ^ 0) % 2 ^ w.size) all ∙ ap (λ (x : ℕ). x % 2 ^ w.size) (mul-one ((2 ^ w.size - 1) * 2 + 1) ∙ twice (2 ^ w.size) (pow_pos w.size)) ∙ low 1 w.size (ones_lt w.size)
    where
      twice : (p : ℕ) → 0 < p → (p - 1) * 2 + 1 ≡ 1 * p + (p - 1)
      twice p l = omega arith

  accept_as_next : accept_of w seq ≡ new_of w seq 1
  accept_as_next = accept_as_new w seq (within_yes 1 reach (ahead w.highest seq) (omega (arith, next)) (omega (arith, next))) ∙ ap (new_of w seq) next

  pub accept_in_order : w.bits.low < 2 ^ 64 → ◌≡◌ {A = Arrival} (record { window = record { size = w.size; highest = seq; bits = w.bits }; class = New 0; lost = None }) (accept_of w seq)
  unfolding val new_of
  accept_in_order b =
      taken_is (new_of w seq 1) (new_window_is w seq 1 (of_words w.bits.high w.bits.low b _ (all ∙ sym moved))) refl
      (new_lost_is w seq 1 {m = set_of (missing_of w)} refl (loss_empty seq w.size (val (set_of (missing_of w))) 1 (omega arith) (omega arith) (val_of (missing_of w) ∙ none)))
      ∙ sym accept_as_next

  pub in_order_complete : eqb (missing_of (accept_of w seq).window) 0 ≡ true
  unfolding new_of missing_of
  in_order_complete =
      eq-eqb _ _ (ap (λ (t : Arrival). missing_of t.window) accept_as_next ∙ ap (λ (x : ℕ). (2 ^ w.size - 1) - x) (val_of _ ∙ moved) ∙ self (2 ^ w.size - 1))
    where
      self : (n : ℕ) → n - n ≡ 0
      self n = omega arith
