-- The places of a loss: of the unprocessed ones it holds exactly those that it was made for, and nothing above the highest.
use Prim.Native.Nat.{ℕ, ◌+◌, ◌-◌, ◌≤◌, ◌<◌}
use mathlib.Core.Path.{◌≡◌, refl, sym, ◌∙◌}
use mathlib.Core.Logic.{inl, inr}
use mathlib.Core.Bool.{Bool, true, false, ◌||◌, ◌&&◌, or-true, or-false}
use native.Mathlib.Omega.{arith}
use lib.Dec.{ltb, leb}
use Rattle.config.specs.Sequence.{turn}
use Rattle.config.specs.inner.Tests.{split, tests, lifts, and_left, and_right}
use Rattle.receiver_log.specs.Log.{in_loss}
use Rattle.receiver_log.specs.Spans.{Ends, none, ends, ends_of, span_from}
use Rattle.receiver_log.proofs.EndsOf.{EndsOk, ends_ok}
use Rattle.config.specs.inner.Choices.{never, unless, and_both}
use Rattle.receiver_log.proofs.Numbers.{start_at}

module _ (H low n : ℕ) (f p q : ℕ → Bool)
    (same : (b : ℕ) → b ≤ H → p b ≡ q (H - b))
    (near : (b : ℕ) → low ≤ b → f b ≡ true → (b < low + n) × (b ≤ H) × (b < turn))
    (convex : (a x b : ℕ) → low ≤ a → a ≤ x → x ≤ b → f a ≡ true → f b ≡ true → p x ≡ false → f x ≡ true) where
  abbrev chosen : ℕ → Bool
  chosen b = leb low b && f b

  pub loss_holds : (s : Ends) → EndsOk f low n s → (b : ℕ) → b ≤ H → p b ≡ false → in_loss H (span_from H s) (H - b) ≡ chosen b
  loss_holds none h b l e =
      sym
      (unless (chosen b)
      (λ k.
      let lb : leb low b ≡ true = and_left (leb low b) (f b) k in
      let fb : f b ≡ true = and_right (leb low b) (f b) k in
      let i = near b (omega (arith, tests)) fb in
      never fb (h b (omega (arith, tests)) i.0)))
  loss_holds (ends x y) h b l e =
      let i = near y (omega (arith, h.from, h.order)) h.oldest in
      rw (start_at H y i.1 i.2)
      (elim (split (chosen b)) [
        | inl k ↦
            let lb : leb low b ≡ true = and_left (leb low b) (f b) k in
            let fb : f b ≡ true = and_right (leb low b) (f b) k in
            let j = near b (omega (arith, tests)) fb in
            let m = h.all b (omega (arith, tests)) j.0 fb in
            let u : leb (H - y) (H - b) ≡ true = omega (arith, lifts, m.1) in
            let v : ltb (H - b) (H - y + (y - x + 1)) ≡ true = omega (arith, lifts, m.0, m.1, i.1) in
            and_both u v ∙ sym k
        | inr k ↦ elim (split (leb (H - y) (H - b))) [
          | inl u ↦ elim (split (ltb (H - b) (H - y + (y - x + 1)))) [
            | inl v ↦
                let xb : x ≤ b = omega (arith, tests, h.order, i.1) in
                let yb : b ≤ y = omega (arith, tests, i.1) in
                let g : f b ≡ true = convex x b y h.from xb yb h.newest h.oldest e in
                let lb : leb low b ≡ true = omega (arith, lifts, h.from) in
                let c : chosen b ≡ true = rw (lb, g) in
                absurd (never c k)
            | inr v ↦ rw (u, v) (sym k)
          ]
          | inr u ↦ rw u (sym k)
        ]
      ])

  pub loss_marks : (b : ℕ) → b ≤ H → (p b || chosen b) ≡ (in_loss H (span_from H (ends_of f low n)) (H - b) || q (H - b))
  loss_marks b l =
      let s : p b ≡ q (H - b) = same b l in
      let i : Bool = in_loss H (span_from H (ends_of f low n)) (H - b) in
      elim (split (p b)) [
        | inl e ↦ let g : q (H - b) ≡ true = sym s ∙ e in rw (e, g) (sym (or-true i))
        | inr e ↦
            let g : q (H - b) ≡ false = sym s ∙ e in
            rw (e, g) (sym (loss_holds (ends_of f low n) (ends_ok f low n) b l e) ∙ sym (or-false i))
      ]

  below_highest : (s : Ends) → EndsOk f low n s → (z : ℕ) → H < z → in_loss H (span_from H s) z ≡ false
  below_highest none h z l = refl
  below_highest (ends x y) h z l =
      let i = near y (omega (arith, h.from, h.order)) h.oldest in
      let u : leb (H - y) z ≡ true = omega (arith, lifts) in
      let v : ltb z (H - y + (y - x + 1)) ≡ false = empty i.1 in
      rw (start_at H y i.1 i.2, u, v)
    where
      empty : y ≤ H → ltb z (H - y + (y - x + 1)) ≡ false
      empty k = omega (arith, lifts, h.order)

  pub loss_below : (z : ℕ) → H < z → in_loss H (span_from H (ends_of f low n)) z ≡ false
  loss_below = below_highest (ends_of f low n) (ends_ok f low n)
