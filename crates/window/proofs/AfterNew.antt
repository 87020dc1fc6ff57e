-- A number d ahead arrives: the positions of the window after it, and those that left it unprocessed.
use mathlib.Core.Path.{◌≡◌, ap, sym, ◌∙◌}
use mathlib.Core.Bool.{Bool, true, false, not, ◌&&◌, cond}
use mathlib.Core.Logic.{inl, inr}
use Prim.Native.Nat.{ℕ, ◌+◌, ◌-◌, ◌*◌, ◌/◌, ◌%◌, ◌^◌, ◌≤◌, ◌<◌}
use native.Mathlib.Nat.{lt_of_lt_of_le}
use native.Mathlib.Omega.{arith}
use lib.Dec.{eqb, leb, ltb, lit<}
use lib.Pow.{pow_mono, ones_lt}
use Rattle.config.specs.inner.Tests.{split, tests, lifts}
use Rattle.window.specs.Set.{val, has}
use Rattle.window.specs.Window.{Valid, processed, missing_of}
use Rattle.window.specs.Arrival.{moved_of, lost_of, new_of}
use Rattle.window.specs.declared.window.ReceiveWindow.{ReceiveWindow}
use Rattle.window.proofs.Digits.{has_above, has_ones, has_low, has_high, has_cut, has_down, up_low, up_high}
use Rattle.window.proofs.Positions.{processed_highest, processed_beyond, processed_in, processed_set, has_missing}

-- ---- the set

module _ (size n d : ℕ) where
  -- the skipped ones are unprocessed
  pub moved_skipped : (k : ℕ) → k < size → k + 1 < d → has (moved_of size n d) k ≡ false
  unfolding moved_of
  moved_skipped k h l = has_cut ((n * 2 + 1) * 2 ^ (d - 1)) size k h ∙ up_low (n * 2 + 1) (d - 1) k (omega arith)

  -- the old highest is processed
  pub moved_highest : d - 1 < size → has (moved_of size n d) (d - 1) ≡ true
  unfolding moved_of
  moved_highest h =
      let none : d - 1 - (d - 1) ≡ 0 = omega arith in
      has_cut ((n * 2 + 1) * 2 ^ (d - 1)) size (d - 1) h ∙ up_high (n * 2 + 1) (d - 1) (d - 1) (omega arith) ∙ ap (has (n * 2 + 1)) none
      ∙ ap (λ (x : ℕ). eqb x 1) odd
    where
      odd : (n * 2 + 1) / 1 % 2 ≡ 1
      odd = omega arith

  -- position k was position k - d
  pub moved_old : (k : ℕ) → 1 ≤ d → d ≤ k → k < size → has (moved_of size n d) k ≡ has n (k - d)
  unfolding moved_of
  moved_old k p q h =
      has_cut ((n * 2 + 1) * 2 ^ (d - 1)) size k h ∙ up_high (n * 2 + 1) (d - 1) k (omega arith) ∙ has_high n 1 1 (k - (d - 1)) (lit< tt) (omega arith)
      ∙ ap (has n) less
    where
      less : k - (d - 1) - 1 ≡ k - d
      less = omega arith

-- ---- the window

-- a position after the highest has moved d ahead
abbrev pub shifted : ReceiveWindow → ℕ → ℕ → Bool
shifted w d b = cond (ltb b d) (eqb b 0) (processed w (b - d))

pub processed_new : (w : ReceiveWindow) (seq d b : ℕ) → 1 ≤ d → processed (new_of w seq d).window b ≡ cond (leb b w.size) (shifted w d b) true
unfolding new_of
processed_new w seq d b p = elim (split (leb b w.size)) [
  | inl q ↦ rw q (elim (split (ltb b d)) [
    | inl l ↦ elim (split (eqb b 0)) [
      | inl z ↦ let z0 : b ≡ 0 = omega (arith, tests) in ap (processed after) z0 ∙ processed_highest after ∙ rw (l, z)
      | inr z ↦
          at_set (omega (arith, tests)) (omega (arith, tests)) ∙ moved_skipped w.size n d (b - 1) (omega (arith, tests)) (omega (arith, tests)) ∙ rw (l, z)
    ]
    | inr l ↦ elim (split (eqb b d)) [
      | inl e ↦
          let at : b - 1 ≡ d - 1 = omega (arith, tests) in
          let zero : b - d ≡ 0 = omega (arith, tests) in
          at_set (omega (arith, tests)) (omega (arith, tests)) ∙ ap (has (moved_of w.size n d)) at ∙ moved_highest w.size n d (omega (arith, tests))
          ∙ sym (processed_highest w) ∙ ap (processed w) (sym zero) ∙ rw l
      | inr e ↦
          let at : b - 1 - d ≡ b - d - 1 = omega arith in
          at_set (omega (arith, tests)) (omega (arith, tests)) ∙ moved_old w.size n d (b - 1) p (omega (arith, tests)) (omega (arith, tests)) ∙ ap (has n) at
          ∙ sym (processed_in w (b - d) (omega (arith, tests)) (omega (arith, tests))) ∙ rw l
    ]
  ])
  | inr q ↦ processed_beyond after b (omega (arith, tests)) ∙ rw q
]
  where
    n : ℕ
    n = val w.bits

    after : ReceiveWindow
    after = (new_of w seq d).window

    at_set : 1 ≤ b → b ≤ w.size → processed after b ≡ has (moved_of w.size n d) (b - 1)
    at_set p q = processed_set w.size seq (moved_of w.size n d) b p q

-- ---- what left

module _ (size m d k : ℕ) where
  -- the skipped ones, as far as they are more than the size behind
  pub lost_skipped : size + k + 1 < d → has (lost_of size m d) k ≡ true
  unfolding lost_of
  lost_skipped l = has_down _ size k ∙ has_low m d _ (size + k) (omega arith) ∙ has_ones (d - 1) (size + k) (omega arith)

  -- the old highest did not
  pub lost_highest : size + k + 1 ≡ d → has (lost_of size m d) k ≡ false
  unfolding lost_of
  lost_highest e =
      has_down _ size k ∙ has_low m d _ (size + k) (omega arith) ∙ ap (has (2 ^ (d - 1) - 1)) at ∙ has_above (2 ^ (d - 1) - 1) (d - 1) (ones_lt (d - 1))
    where
      at : size + k ≡ d - 1
      at = omega arith

  -- the missing ones
  pub lost_old : 1 ≤ d → d ≤ size + k → has (lost_of size m d) k ≡ has m (size + k - d)
  unfolding lost_of
  lost_old p q = has_down _ size k ∙ has_high m d _ (size + k) (lt_of_lt_of_le (ones_lt (d - 1)) (pow_mono (omega arith))) q

pub has_lost : (w : ReceiveWindow) → Valid w → (d k : ℕ) → 1 ≤ d → has (lost_of w.size (missing_of w) d) k ≡ not (shifted w d (w.size + 1 + k))
has_lost w v d k p = elim (split (ltb (w.size + 1 + k) d)) [
  | inl l ↦
      let some : eqb (w.size + 1 + k) 0 ≡ false = omega (arith, lifts) in
      lost_skipped w.size (missing_of w) d k (omega (arith, tests)) ∙ rw (l, some)
  | inr l ↦ elim (split (eqb (w.size + 1 + k) d)) [
    | inl e ↦
        let zero : w.size + 1 + k - d ≡ 0 = omega (arith, tests) in
        lost_highest w.size (missing_of w) d k (omega (arith, tests)) ∙ ap not (sym (processed_highest w) ∙ ap (processed w) (sym zero)) ∙ rw l
    | inr e ↦
        let at : w.size + k - d + 1 ≡ w.size + 1 + k - d = omega (arith, tests) in
        lost_old w.size (missing_of w) d k p (omega (arith, tests)) ∙ has_missing w v (w.size + k - d) ∙ ap (λ (x : ℕ). ltb (w.size + k - d) w.size && not (processed w x)) at
        ∙ inside (w.size + k - d) (w.size + 1 + k - d) (omega (arith, tests)) ∙ rw l
  ]
]
  where
    -- beyond the window all is processed
    inside : (i b : ℕ) → b ≡ i + 1 → (ltb i w.size && not (processed w b)) ≡ not (processed w b)
    inside i b e = elim (split (ltb i w.size)) [
      | inl t ↦ rw t
      | inr t ↦ let far : processed w b ≡ true = processed_beyond w b (omega (arith, tests)) in rw (t, far)
    ]
