-- The positions of a window, by how far behind the highest they are.
use mathlib.Core.Path.{◌≡◌, refl, ap, sym, ◌∙◌}
use mathlib.Core.Bool.{true, false, not, ◌&&◌}
use mathlib.Core.Logic.{inl, inr}
use Prim.Native.Nat.{ℕ, ◌+◌, ◌-◌, ◌^◌, ◌≤◌, ◌<◌}
use native.Mathlib.Nat.{lt_of_lt_of_le}
use native.Mathlib.Omega.{arith}
use lib.Dec.{leb, ltb}
use lib.Pow.{pow_mono, ones_sub-lt}
use Rattle.config.specs.inner.Tests.{split, tests}
use Rattle.window.specs.Set.{val, set_of, has}
use Rattle.window.specs.Window.{Valid, fresh_of, processed, missing_of}
use Rattle.window.specs.declared.window.ReceiveWindow.{ReceiveWindow}
use Rattle.window.proofs.Words.{val_of}
use Rattle.config.specs.inner.Ranges.{within_yes, within_above}
use Rattle.window.proofs.Digits.{has_above, has_rest, has_ones}

-- ---- processed

module _ (w : ReceiveWindow) where
  pub processed_highest : processed w 0 ≡ true
  unfolding processed
  processed_highest = refl

  pub processed_beyond : (b : ℕ) → w.size < b → processed w b ≡ true
  unfolding processed
  processed_beyond b l = rw (within_above 1 w.size b l)

  pub processed_in : (b : ℕ) → 1 ≤ b → b ≤ w.size → processed w b ≡ has (val w.bits) (b - 1)
  unfolding processed
  processed_in b p q = rw (within_yes 1 w.size b p q)

  -- what is unprocessed lies in the window
  pub unprocessed_in : (b : ℕ) → processed w b ≡ false → (1 ≤ b) × (b ≤ w.size)
  unprocessed_in b e = elim (split (ltb 0 b)) [
    | inl p ↦ elim (split (ltb w.size b)) [
      | inl q ↦ let t : processed w b ≡ true = processed_beyond b (omega (arith, tests)) in absurd (never t e)
      | inr q ↦ (omega (arith, tests), omega (arith, tests))
    ]
    | inr p ↦ let z : b ≡ 0 = omega (arith, tests) in absurd (never (ap (processed w) z ∙ processed_highest) e)
  ]
    where
      never : processed w b ≡ true → processed w b ≡ false → ⊥
      never t f = let z : ◌≡◌ {A = ℕ} 0 1 = cc in omega arith

-- a window with its set's number
pub processed_set : (size highest n b : ℕ) → 1 ≤ b → b ≤ size → processed (record { size = size; highest = highest; bits = set_of n }) b ≡ has n (b - 1)
processed_set size highest n b p q =
    processed_in (record { size = size; highest = highest; bits = set_of n }) b p q ∙ ap (λ (x : ℕ). has x (b - 1)) (val_of n)

-- ---- all processed

pub processed_fresh : (size highest b : ℕ) → processed (fresh_of size highest) b ≡ true
processed_fresh size highest b = elim (split (ltb 0 b)) [
  | inl p ↦ elim (split (leb b size)) [
    | inl q ↦ processed_set size highest (2 ^ size - 1) b (omega (arith, tests)) (omega (arith, tests)) ∙ has_ones size (b - 1) (omega (arith, tests))
    | inr q ↦ processed_beyond (fresh_of size highest) b (omega (arith, tests))
  ]
  | inr p ↦ let z : b ≡ 0 = omega (arith, tests) in ap (processed (fresh_of size highest)) z ∙ processed_highest (fresh_of size highest)
]

-- ---- missing

pub has_missing : (w : ReceiveWindow) → Valid w → (k : ℕ) → has (missing_of w) k ≡ (ltb k w.size && not (processed w (k + 1)))
unfolding missing_of
has_missing w v k = elim (split (ltb k w.size)) [
  | inl l ↦
      let at : k + 1 - 1 ≡ k = omega arith in
      let in_window : processed w (k + 1) ≡ has (val w.bits) k = processed_in w (k + 1) (omega arith) (omega (arith, tests)) ∙ ap (has (val w.bits)) at in
      has_rest (val w.bits) w.size k v.inside (omega (arith, tests)) ∙ ap not (sym in_window) ∙ rw l
  | inr l ↦ has_above _ k (lt_of_lt_of_le (ones_sub-lt w.size (val w.bits)) (pow_mono (omega (arith, tests)))) ∙ rw l
]

-- ---- by what the code has at hand

pub processed_zero : (w : ReceiveWindow) (b : ℕ) → b ≡ 0 → true ≡ processed w b
processed_zero w b e = sym (ap (processed w) e ∙ processed_highest w)
