-- A Late number, or the missing numbers of a range, are processed now: the positions of the window after it.
use mathlib.Core.Path.{◌≡◌, refl, ap, ap₂, sym, ◌∙◌}
use mathlib.Core.Bool.{Bool, true, false, not, ◌&&◌, ◌||◌, cond, or-false}
use mathlib.Core.Logic.{inl, inr}
use Prim.Native.Nat.{ℕ, zero, suc, ◌+◌, ◌-◌, ◌^◌, ◌≤◌, ◌<◌}
use native.Mathlib.Nat.{add-zero}
use native.Mathlib.Omega.{arith}
use lib.Bits.{bit_or}
use lib.Dec.{eqb, leb, ltb}
use lib.Pow.{pow_pos}
use Rattle.config.specs.Range.{within}
use Rattle.config.specs.inner.Tests.{split, tests, lifts}
use Rattle.window.specs.Set.{val, set_of, has}
use Rattle.window.specs.Window.{Valid, behind, processed, missing_of}
use Rattle.window.specs.Arrival.{late_at}
use Rattle.window.specs.Marking.{in_range, hit_at, hits_of, mark_of}
use Rattle.window.specs.declared.window.ReceiveWindow.{ReceiveWindow}
use Rattle.window.specs.declared.window.SeqRange.{SeqRange}
use Rattle.window.proofs.Words.{or_bit, lacks}
use Rattle.config.specs.inner.Ranges.{within_yes}
use Rattle.window.proofs.Digits.{has_above, has_or, has_pow}
use Rattle.window.proofs.Hits.{hits_lt}
use Rattle.window.proofs.Positions.{processed_highest, processed_beyond, processed_in, processed_set, has_missing}

-- ---- a position more

-- the window with the positions of m too
abbrev with_set : ReceiveWindow → ℕ → ReceiveWindow
with_set w m = record { size = w.size; highest = w.highest; bits = set_of (bit_or (val w.bits) m) }

processed_or : (w : ReceiveWindow) (m b : ℕ) (t : Bool) → (1 ≤ b → b ≤ w.size → (has (val w.bits) (b - 1) || has m (b - 1)) ≡ (has (val w.bits) (b - 1) || t)) → processed (with_set w m) b ≡ (processed w b || t)
processed_or w m b t f = elim (split (ltb 0 b)) [
  | inl p ↦ elim (split (leb b w.size)) [
    | inl q ↦
        let low : 1 ≤ b = omega (arith, tests) in
        let high : b ≤ w.size = omega (arith, tests) in
        processed_set w.size w.highest (bit_or (val w.bits) m) b low high ∙ has_or (val w.bits) m (b - 1) ∙ f low high
        ∙ ap (λ (x : Bool). x || t) (sym (processed_in w b low high))
    | inr q ↦
        let far : w.size < b = omega (arith, tests) in
        processed_beyond (with_set w m) b far ∙ ap (λ (x : Bool). x || t) (sym (processed_beyond w b far))
  ]
  | inr p ↦
      let z : b ≡ 0 = omega (arith, tests) in
      ap (processed (with_set w m)) z ∙ processed_highest (with_set w m) ∙ ap (λ (x : Bool). x || t) (sym (processed_highest w) ∙ ap (processed w) (sym z))
]

-- ---- a Late number

pub processed_late : (w : ReceiveWindow) (back b : ℕ) → 1 ≤ back → back ≤ w.size → processed (late_at w (back - 1)).window b ≡ (processed w b || eqb b back)
processed_late w back b p q =
    processed_or w (2 ^ (back - 1)) b (eqb b back)
    (λ l h. ap (λ (x : Bool). has (val w.bits) (b - 1) || x) (has_pow (back - 1) (b - 1) ∙ same l))
  where
    same : 1 ≤ b → eqb (b - 1) (back - 1) ≡ eqb b back
    same l = elim (split (eqb b back)) [
      | inl e ↦ let f : eqb (b - 1) (back - 1) ≡ true = omega (arith, tests, lifts) in f ∙ sym e
      | inr e ↦ let f : eqb (b - 1) (back - 1) ≡ false = omega (arith, tests, lifts) in f ∙ sym e
    ]

-- ---- a range

module _ (r : SeqRange) (h m : ℕ) where
  -- one more position, where t says so
  has_more : (x s : ℕ) (t : Bool) → x < 2 ^ s → (k : ℕ) → has (x + cond t (2 ^ s) 0) k ≡ (has x k || (eqb k s && t))
  has_more x s true b k =
      ap (λ (y : ℕ). has y k) (sym (or_bit x s (lacks x s (has_above x s b)))) ∙ has_or x (2 ^ s) k ∙ ap (λ (y : Bool). has x k || y) (has_pow s k ∙ sym (and_true (eqb k s)))
    where
      and_true : (y : Bool) → (y && true) ≡ y
      and_true true = refl
      and_true false = refl
  has_more x s false b k = ap (λ (y : ℕ). has y k) (add-zero x) ∙ sym (or-false (has x k)) ∙ ap (λ (y : Bool). has x k || y) (none (eqb k s))
    where
      none : (y : Bool) → false ≡ (y && false)
      none true = refl
      none false = refl

  pub has_hits : (size k : ℕ) → has (hits_of r h m size) k ≡ (ltb k size && (has m k && in_range r (behind h (k + 1))))
  unfolding hits_of hit_at
  has_hits zero k = let low : ltb k 0 ≡ false = omega (arith, lifts) in has_above 0 k (pow_pos k) ∙ rw low
  has_hits (suc s) k =
      has_more (hits_of r h m s) s (has m s && in_range r (behind h (s + 1))) (hits_lt r h m s) k ∙ ap (λ (y : Bool). y || (eqb k s && hit s)) (has_hits s k)
      ∙ (elim (split (eqb k s)) [
        | inl e ↦
            let same : s ≡ k = omega (arith, tests) in
            let low : ltb k s ≡ false = omega (arith, tests, lifts) in
            let next : ltb k (suc s) ≡ true = omega (arith, tests, lifts) in
            rw (e, low, next) (ap hit same)
        | inr e ↦
            let next : ltb k (suc s) ≡ ltb k s = grow e in
            rw (e, next) (or-false (ltb k s && hit k))
      ])
    where
      hit : ℕ → Bool
      hit k = has m k && in_range r (behind h (k + 1))

      grow : eqb k s ≡ false → ltb k (suc s) ≡ ltb k s
      grow e = elim (split (ltb k s)) [
        | inl l ↦ let f : ltb k (suc s) ≡ true = omega (arith, tests, lifts) in f ∙ sym l
        | inr l ↦ let f : ltb k (suc s) ≡ false = omega (arith, tests, lifts) in f ∙ sym l
      ]

pub processed_mark : (w : ReceiveWindow) → Valid w → (r : SeqRange) (b : ℕ)
    → processed (mark_of w r).window b ≡ (processed w b || (within 1 w.size b && in_range r (behind w.highest b)))
unfolding mark_of
processed_mark w v r b = processed_or w found b _ here
  where
    found : ℕ
    found = hits_of r w.highest (missing_of w) w.size

    absorb : (x y : Bool) → (x || (not x && y)) ≡ (x || y)
    absorb true y = refl
    absorb false y = refl

    here : 1 ≤ b → b ≤ w.size → (has (val w.bits) (b - 1) || has found (b - 1)) ≡ (has (val w.bits) (b - 1) || (within 1 w.size b && in_range r (behind w.highest b)))
    here l q =
        let at : b - 1 + 1 ≡ b = omega arith in
        let low : ltb (b - 1) w.size ≡ true = omega (arith, lifts) in
        let i : Bool = in_range r (behind w.highest b) in
        let gone : has (missing_of w) (b - 1) ≡ not (has (val w.bits) (b - 1)) =
        has_missing w v (b - 1) ∙ rw low (ap (λ (n : ℕ). not (processed w n)) at ∙ ap not (processed_in w b l q)) in
        let hit : has found (b - 1) ≡ (not (has (val w.bits) (b - 1)) && i) =
        has_hits r w.highest (missing_of w) w.size (b - 1) ∙ rw low (ap₂ (λ (x : Bool) (n : ℕ). x && in_range r (behind w.highest n)) gone at) in
        ap (λ (x : Bool). has (val w.bits) (b - 1) || x) hit ∙ absorb (has (val w.bits) (b - 1)) i ∙ rw (within_yes 1 w.size b l q)
