-- What the set's operations leave of a window's positions: what is missing, and what is processed when a number d ahead arrives.
use mathlib.Core.Path.{◌≡◌, sym, ap, ap₂, ◌∙◌}
use mathlib.Core.Logic.{inl, inr}
use Prim.Native.Nat.{ℕ, ◌+◌, ◌-◌, ◌*◌, ◌%◌, ◌^◌, ◌≤◌, ◌<◌}
use native.Mathlib.Omega.{arith}
use lib.Bits.{bit_and}
use lib.Dec.{eqb}
use borrow.Author.Tests.{eq-eqb, ne_eqb, eqb-false}
use Rattle.config.specs.inner.Tests.{split, tests}
use Rattle.window.specs.Set.{max_window, val, set_of}
use Rattle.window.specs.Window.{Valid, missing_of}
use Rattle.window.specs.Arrival.{moved_of}
use Rattle.window.specs.declared.set.Bits.{Bits}
use Rattle.window.specs.declared.window.ReceiveWindow.{ReceiveWindow}
use Rattle.window.proofs.Words.{val_is}
use Rattle.window.proofs.Operations.{cut_mask, missing_is}

-- nothing is missing where the set has every position
pub complete_is : (w : ReceiveWindow) → Valid w → eqb (val w.bits) (2 ^ w.size - 1) ≡ eqb (missing_of w) 0
unfolding missing_of
complete_is w v = go (2 ^ w.size) (val w.bits) v.inside
  where
    go : (p n : ℕ) → n < p → eqb n (p - 1) ≡ eqb (p - 1 - n) 0
    go p n l = elim (split (eqb n (p - 1))) [
      | inl q ↦ q ∙ sym (eq-eqb (p - 1 - n) 0 (omega (arith, tests)))
      | inr q ↦ q ∙ sym (ne_eqb (p - 1 - n) 0 (λ z. eqb-false n (p - 1) q (omega arith)))
    ]

-- `all` are the positions of the window
module _ (w : ReceiveWindow) {all : Bits} (ea : all ≡ set_of (2 ^ w.size - 1)) {r : Bits} where
  pub missing_set_is : Valid w → {s : Bits} → s ≡ set_of ((2 ^ max_window - 1) - val w.bits) → r ≡ set_of (bit_and (val s) (val all)) → r ≡ set_of (missing_of w)
  unfolding missing_of
  missing_set_is v {s} es er =
      er ∙ ap set_of (ap₂ bit_and (val_is s _ es) (val_is all _ ea) ∙ missing_is w.size (val w.bits) v.most v.inside)

  pub moved_set_is : w.size ≤ max_window → (d : ℕ) → {s : Bits} → s ≡ set_of (((val w.bits * 2 + 1) * 2 ^ (d - 1)) % 2 ^ max_window) → r ≡ set_of (bit_and (val s) (val all)) → r ≡ set_of (moved_of w.size (val w.bits) d)
  unfolding moved_of
  moved_set_is h d {s} es er =
      er ∙ ap set_of (ap₂ bit_and (val_is s _ es) (val_is all _ ea) ∙ cut_mask ((val w.bits * 2 + 1) * 2 ^ (d - 1)) w.size h)
