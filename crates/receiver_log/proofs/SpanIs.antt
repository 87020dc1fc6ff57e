-- The spans of the window are the spans of the log.
use Prim.Native.Nat.{ℕ, ◌+◌, ◌-◌, ◌%◌, ◌≤◌, ◌<◌}
use Rattle.std.proofs.Common.{Option, Some, None}
use mathlib.Core.Path.{◌≡◌, ap, sym, ◌∙◌}
use mathlib.Core.Logic.{inl, inr}
use mathlib.Core.Bool.{Bool, true, false, cond, not, ◌&&◌}
use mathlib.Core.List.{List}
use native.Mathlib.Omega.{arith}
use lib.Dec.{eqb, ltb}
use borrow.Author.Tests.{ne_eqb}
use Rattle.config.specs.Sequence.{turn}
use Rattle.config.specs.inner.Tests.{split, tests, lifts, and_left}
use Rattle.command.specs.declared.retransmit.RetransmitRequest.{RetransmitRequest}
use Rattle.window.specs.Set.{has, top_of, bottom_of}
use Rattle.window.specs.Window.{behind, processed, missing_of, span_of, missing_span, request_of}
use Rattle.window.specs.Arrival.{reach, lost_of, new_of}
use Rattle.window.specs.Marking.{in_range, hits_of, mark_of}
use Rattle.window.specs.declared.window.ReceiveWindow.{ReceiveWindow}
use Rattle.window.specs.declared.window.SeqRange.{SeqRange}
use Rattle.window.proofs.Digits.{has_pos, has_top, has_bottom, top_most, bottom_least}
use Rattle.window.proofs.Positions.{has_missing}
use Rattle.window.proofs.SpanEnds.{span_of_lem, span_nothing}
use Rattle.window.proofs.AfterNew.{has_lost}
use Rattle.window.proofs.AfterMark.{has_hits}
use Rattle.receiver_log.specs.Log.{Report, origin, high, unprocessed}
use Rattle.receiver_log.specs.Spans.{Ends, none, ends, is_none, ends_of, span_from, request_from, lost_at, missing_ends, missing_in, request_in, asked_for}
use Rattle.receiver_log.proofs.EndsOf.{EndsOk, ends_ok}
use Rattle.config.specs.inner.Choices.{never, unless}
use Rattle.receiver_log.proofs.Numbers.{number_behind}
use Rattle.receiver_log.proofs.Held.{Held, open_at, near}
use Rattle.receiver_log.proofs.Arrivals.{shifted_far, open_shifted, lost_near}

range_same : {a b c d : ℕ} → a ≡ b → c ≡ d → ◌≡◌ {A = Option SeqRange} (Some record { first = a; count = c }) (Some record { first = b; count = d })
range_same p q = λ i. Some record { first = p i; count = q i }

-- ---- a set of positions, and a test of positions

module _ (H base m n : ℕ) (f : ℕ → Bool)
    (agree : (k : ℕ) → k < n → has m k ≡ f (base + 1 + k))
    (only : (k : ℕ) → has m k ≡ true → (k < n) × (base + 1 + k ≤ H) × (base + 1 + k < turn)) where
  absent : (k : ℕ) → n ≤ k → has m k ≡ false
  absent k l = unless (has m k) (λ e. let j = only k e in omega (arith, j.0))

  no_digit : EndsOk f (base + 1) n none → (k : ℕ) → has m k ≡ false
  no_digit h k = elim (split (ltb k n)) [
    | inl l ↦ agree k (omega (arith, tests)) ∙ h (base + 1 + k) (omega arith) (omega (arith, tests))
    | inr l ↦ absent k (omega (arith, tests))
  ]

  module _ (x y : ℕ) (h : EndsOk f (base + 1) n (ends x y)) where
    digit_at : (b : ℕ) → base + 1 ≤ b → b < base + 1 + n → f b ≡ true → has m (b - (base + 1)) ≡ true
    digit_at b p q e = let at : base + 1 + (b - (base + 1)) ≡ b = omega arith in agree (b - (base + 1)) (omega arith) ∙ ap f at ∙ e

    at_top : has m (y - (base + 1)) ≡ true
    at_top = digit_at y (omega (arith, h.from, h.order)) h.to h.oldest

    at_bottom : has m (x - (base + 1)) ≡ true
    at_bottom = digit_at x h.from (omega (arith, h.order, h.to)) h.newest

    pub some : 0 < m
    some = has_pos m _ at_top

    pub top_end : base + top_of m + 1 ≡ y
    top_end =
        let j = only (top_of m) (has_top m some) in
        let k = h.all (base + 1 + top_of m) (omega arith) (omega (arith, j.0)) (sym (agree (top_of m) j.0) ∙ has_top m some) in
        let up = top_most m (y - (base + 1)) at_top in
        omega (arith, k.1, up, h.from, h.order)

    pub bottom_end : base + bottom_of m + 1 ≡ x
    bottom_end =
        let j = only (bottom_of m) (has_bottom m some) in
        let k = h.all (base + 1 + bottom_of m) (omega arith) (omega (arith, j.0)) (sym (agree (bottom_of m) j.0) ∙ has_bottom m some) in
        let down = bottom_least m (x - (base + 1)) at_bottom in
        omega (arith, k.0, down, h.from)

    pub first_is : behind (H % turn) (base + top_of m + 1) ≡ (H - y) % turn
    first_is =
        let j = only (y - (base + 1)) at_top in
        ap (behind (H % turn)) top_end ∙ number_behind H y (omega (arith, j.1, h.from, h.order)) (omega (arith, j.2, h.from, h.order))

    pub count_is : top_of m - bottom_of m + 1 ≡ y - x + 1
    count_is = omega (arith, top_end, bottom_end)

  pub span_is : (s : Ends) → EndsOk f (base + 1) n s → span_of (H % turn) base m ≡ span_from H s
  span_is none h = span_nothing (H % turn) base m (no_digit h)
  span_is (ends x y) h = span_of_lem (H % turn) base m _ (at_top x y h) ∙ range_same (first_is x y h) (count_is x y h)

  pub none_is : (s : Ends) → EndsOk f (base + 1) n s → eqb m 0 ≡ is_none s
  none_is none h = elim (split (eqb m 0)) [
    | inl e ↦ e
    | inr e ↦ absurd (never (has_top m (omega (arith, tests))) (no_digit h (top_of m)))
  ]
  none_is (ends x y) h = let p = some x y h in ne_eqb m 0 (λ z. omega arith)

-- ---- missing

module _ {w : ReceiveWindow} {t : List Report} (i : Held w t) where
  missing_agree : (k : ℕ) → k < w.size → has (missing_of w) k ≡ unprocessed t (high t - (0 + 1 + k))
  missing_agree k l =
      let n = near i in
      let low : ltb k w.size ≡ true = omega (arith, lifts) in
      let at : k + 1 ≡ 0 + 1 + k = omega arith in
      has_missing w i.valid k ∙ rw low (ap (λ (b : ℕ). not (processed w b)) at ∙ sym (open_at i (0 + 1 + k) (omega (arith, n.0, n.1))))

  missing_only : (k : ℕ) → has (missing_of w) k ≡ true → (k < w.size) × (0 + 1 + k ≤ high t) × (0 + 1 + k < turn)
  missing_only k e =
      let n = near i in
      let low : ltb k w.size ≡ true = and_left _ _ (sym (has_missing w i.valid k) ∙ e) in
      (omega (arith, tests), omega (arith, tests, n.0, n.1), omega (arith, tests, n.0))

  abbrev missing_at : ℕ → Bool
  missing_at b = unprocessed t (high t - b)

  pub missing_span_lem : missing_span w ≡ missing_in w.size t
  unfolding missing_ends
  missing_span_lem =
      ap (λ (h : ℕ). span_of h 0 (missing_of w)) i.highest
      ∙ span_is (high t) 0 (missing_of w) w.size missing_at missing_agree missing_only (ends_of missing_at 1 w.size) (ends_ok missing_at 1 w.size)

  pub missing_none : eqb (missing_of w) 0 ≡ is_none (missing_ends w.size t)
  unfolding missing_ends
  missing_none = none_is (high t) 0 (missing_of w) w.size missing_at missing_agree missing_only (ends_of missing_at 1 w.size) (ends_ok missing_at 1 w.size)

  pub request_is : request_of w ≡ request_in w.size t
  unfolding request_of missing_ends
  request_is = go (ends_of missing_at 1 w.size) (ends_ok missing_at 1 w.size)
    where
      go : (s : Ends) → EndsOk missing_at 1 w.size s
          → cond (eqb (missing_of w) 0) None (Some record { first = behind w.highest (top_of (missing_of w) + 1); count = top_of (missing_of w) + 1 }) ≡ request_from (high t) s
      go none h = rw (none_is (high t) 0 (missing_of w) w.size missing_at missing_agree missing_only none h)
      go (ends x y) h =
          let top = top_end (high t) 0 (missing_of w) w.size missing_at missing_agree missing_only x y h in
          let at : top_of (missing_of w) + 1 ≡ 0 + top_of (missing_of w) + 1 = omega arith in
          rw (none_is (high t) 0 (missing_of w) w.size missing_at missing_agree missing_only (ends x y) h)
          (range_same
          (ap (λ (h : ℕ). behind h (top_of (missing_of w) + 1)) i.highest ∙ ap (behind (high t % turn)) at
          ∙ first_is (high t) 0 (missing_of w) w.size missing_at missing_agree missing_only x y h)
          (omega (arith, top)))

  -- ---- those that a request asks for

  module _ (q : RetransmitRequest) where
    abbrev range : SeqRange
    range = record { first = q.seq; count = q.count }

    abbrev asked_at : ℕ → Bool
    asked_at b = unprocessed t (high t - b) && in_range range ((high t - b) % turn)

    asked_agree : (k : ℕ) → k < w.size → has (hits_of range w.highest (missing_of w) w.size) k ≡ asked_at (0 + 1 + k)
    asked_agree k l =
        let n = near i in
        let low : ltb k w.size ≡ true = omega (arith, lifts) in
        let at : k + 1 ≡ 0 + 1 + k = omega arith in
        let num : behind w.highest (k + 1) ≡ (high t - (0 + 1 + k)) % turn =
        ap (λ (h : ℕ). behind h (k + 1)) i.highest ∙ ap (behind (high t % turn)) at ∙ number_behind (high t) (0 + 1 + k) (omega (arith, n.0, n.1)) (omega (arith, n.0)) in
        has_hits range w.highest (missing_of w) w.size k ∙ rw (low, missing_agree k l, num)

    asked_only : (k : ℕ) → has (hits_of range w.highest (missing_of w) w.size) k ≡ true → (k < w.size) × (0 + 1 + k ≤ high t) × (0 + 1 + k < turn)
    asked_only k e =
        let n = near i in
        let low : ltb k w.size ≡ true = and_left _ _ (sym (has_hits range w.highest (missing_of w) w.size k) ∙ e) in
        (omega (arith, tests), omega (arith, tests, n.0, n.1), omega (arith, tests, n.0))

    pub marked_span : (mark_of w range).span ≡ asked_for w.size t q
    unfolding mark_of asked_for
    marked_span =
        ap (λ (h : ℕ). span_of h 0 (hits_of range w.highest (missing_of w) w.size)) i.highest
        ∙ span_is (high t) 0 (hits_of range w.highest (missing_of w) w.size) w.size asked_at asked_agree asked_only
        (ends_of asked_at 1 w.size) (ends_ok asked_at 1 w.size)

  -- ---- what left the window

  module _ (d : ℕ) (p : 1 ≤ d) (r : d ≤ reach) where
    abbrev left_at : ℕ → Bool
    left_at b = unprocessed t (high t + d - b)

    abbrev older : ℕ
    older = high t + d - origin - w.size

    left_agree : (k : ℕ) → k < older → has (lost_of w.size (missing_of w) d) k ≡ left_at (w.size + 1 + k)
    left_agree k l = has_lost w i.valid d k p ∙ sym (open_shifted w t d i p r (w.size + 1 + k) (omega arith) (omega arith))

    left_only : (k : ℕ) → has (lost_of w.size (missing_of w) d) k ≡ true → (k < older) × (w.size + 1 + k ≤ high t + d) × (w.size + 1 + k < turn)
    left_only k e = elim (split (ltb (high t + d) (w.size + 1 + k))) [
      | inl l ↦
          let far : has (lost_of w.size (missing_of w) d) k ≡ false =
          has_lost w i.valid d k p ∙ ap not (shifted_far w t d i p r (w.size + 1 + k) (beyond (near i) (omega (arith, tests)))) in
          absurd (never e far)
      | inr l ↦
          let o = open_shifted w t d i p r (w.size + 1 + k) (omega arith) (omega (arith, tests)) in
          let j = lost_near w t d i p r (w.size + 1 + k) (omega arith) (o ∙ sym (has_lost w i.valid d k p) ∙ e) in
          (omega (arith, j.0), omega (arith, j.0), j.2)
    ]
      where
        beyond : (w.size ≤ 128) × (128 < high t) → high t + d < w.size + 1 + k → w.size + d < w.size + 1 + k
        beyond n l = omega (arith, n.0, n.1)

    pub lost_span : (seq : ℕ) → (high t + d) % turn ≡ seq → (new_of w seq d).lost ≡ lost_at w.size t (high t + d)
    unfolding new_of lost_at
    lost_span seq e =
        ap (λ (h : ℕ). span_of h w.size (lost_of w.size (missing_of w) d)) (sym e)
        ∙ span_is (high t + d) w.size (lost_of w.size (missing_of w) d) older left_at left_agree left_only (ends_of left_at (w.size + 1) older)
        (ends_ok left_at (w.size + 1) older)
