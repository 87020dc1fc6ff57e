-- A number arrives: the window after it is what the log says.
use Prim.Native.Nat.{ℕ, ◌+◌, ◌-◌, ◌%◌, ◌≤◌, ◌<◌, max}
use Rattle.std.proofs.Common.{Option, None}
use Rattle.window.specs.declared.window.SeqRange.{SeqRange}
use mathlib.Core.Path.{◌≡◌, refl, ap, sym, ◌∙◌}
use mathlib.Core.Logic.{inl, inr}
use mathlib.Core.Bool.{Bool, true, false, cond, not, ◌||◌, ◌&&◌, or-true, or-false}
use mathlib.Core.List.{List, ◌∷◌}
use native.Mathlib.Omega.{arith}
use lib.Dec.{ltb, leb, eqb}
use Rattle.config.specs.Sequence.{turn, ahead}
use Rattle.config.specs.inner.Tests.{split, tests, lifts}
use Rattle.window.specs.Window.{processed}
use Rattle.window.specs.Arrival.{reach, new_of, late_at}
use Rattle.window.specs.declared.window.ReceiveWindow.{ReceiveWindow}
use Rattle.window.specs.declared.window.Class.TheVariants.{New, Late, Duplicate}
use Rattle.window.proofs.Positions.{processed_beyond, unprocessed_in}
use Rattle.window.proofs.AfterNew.{shifted, processed_new}
use Rattle.window.proofs.AfterMark.{processed_late}
use Rattle.window.proofs.Preserved.{valid_new, valid_late}
use Rattle.receiver_log.specs.Log.{Report, heard, origin, is_ahead, place, high, times, in_loss, unprocessed}
use Rattle.receiver_log.specs.Spans.{ends_of, span_from, lost_at}
use Rattle.config.specs.inner.Choices.{never}
use Rattle.receiver_log.proofs.Settled.{settled, open_is, unprocessed_is, before_0}
use Rattle.receiver_log.proofs.Numbers.{high_behind, place_behind, behind_by}
use Rattle.receiver_log.proofs.Losses.{loss_marks, loss_below}
use Rattle.receiver_log.proofs.Held.{Held}

-- ---- behind

one_behind : (H a b : ℕ) (p q : Bool) → a ≤ H → b ≤ H → p ≡ q → (p || eqb b a) ≡ (eqb (H - b) (H - a) || q)
one_behind H a b p q l m e = elim (split (eqb b a)) [
  | inl k ↦ let u : eqb (H - b) (H - a) ≡ true = omega (arith, tests, lifts) in rw (k, u) (or-true p)
  | inr k ↦ let u : eqb (H - b) (H - a) ≡ false = omega (arith, tests, lifts) in rw (k, u) (or-false p ∙ e)
]

module _ (w : ReceiveWindow) (t : List Report) (seq : ℕ) (ws : List ℕ) (i : Held w t) (e : is_ahead (high t) seq ≡ false) where
  hi : max (high t) (place (high t) seq) ≡ high t
  hi = high_behind (high t) seq e

  pub held_late : seq < turn → processed w (ahead seq (high t % turn)) ≡ false
      → Held (late_at w (ahead seq (high t % turn) - 1)).window (heard seq ws Late None ∷ t)
  held_late l f =
      let back : ℕ = ahead seq (high t % turn) in
      let pl : place (high t) seq ≡ high t - ahead seq (high t % turn) = place_behind (high t) seq e in
      let far : back ≤ reach + 1 = behind_by (high t) seq e l in
      let low : 65535 ≤ high t = i.low in
      let j = unprocessed_in w (ahead seq (high t % turn)) f in
      let at : settled t (high t - ahead seq (high t % turn)) ≡ false = sym (i.same _ (omega arith)) ∙ f in
      let o = open_is t (high t - ahead seq (high t % turn)) at in
      record {
        valid = valid_late w i.valid (ahead seq (high t % turn) - 1) (omega (arith, j.0, j.1));
        highest = rw hi i.highest;
        low = rw hi low;
        same = λ b m.
            let m' : b ≤ high t = rw hi at m in
            processed_late w (ahead seq (high t % turn)) b j.0 j.1
            ∙ rw (hi, pl) (one_behind (high t) (ahead seq (high t % turn)) b (processed w b) (settled t (high t - b)) (omega arith) m' (i.same b m'));
        clear = λ x m.
            let m' : high t < x = rw hi at m in
            let v : eqb x (high t - ahead seq (high t % turn)) ≡ false = omega (arith, lifts) in
            rw (pl, v) (i.clear x m');
        once = λ x. rw pl (elim (split (eqb x (high t - ahead seq (high t % turn)))) [
          | inl k ↦
              let xe : x ≡ high t - ahead seq (high t % turn) = omega (arith, tests) in
              let z : times t x ≡ 0 = ap (times t) xe ∙ o.1 in
              rw k (omega arith)
          | inr k ↦ rw k (i.once x)
        ]);
        before = λ x m.
            let v : eqb x (high t - ahead seq (high t % turn)) ≡ false = omega (arith, lifts, o.0) in
            rw (pl, v) (i.before x m);
      }

  pub held_duplicate : Held w (heard seq ws Duplicate None ∷ t)
  held_duplicate = record {
    valid = i.valid;
    highest = rw hi i.highest;
    low = rw hi i.low;
    same = λ b m. rw hi (i.same b (rw hi at m));
    clear = λ x m. i.clear x (rw hi at m);
    once = i.once;
    before = i.before;
  }

-- ---- ahead

module _ (w : ReceiveWindow) (t : List Report) (d : ℕ) (i : Held w t) (some : 1 ≤ d) (most : d ≤ reach) where
  pub shifted_same : (b : ℕ) → b ≤ high t + d → shifted w d b ≡ (eqb (high t + d - b) (high t + d) || settled t (high t + d - b))
  shifted_same b l = elim (split (ltb b d)) [
    | inl k ↦
        let s : settled t (high t + d - b) ≡ false = i.clear (high t + d - b) (omega (arith, tests)) in
        elim (split (eqb b 0)) [
          | inl z ↦ let u : eqb (high t + d - b) (high t + d) ≡ true = omega (arith, tests, lifts) in rw (k, z, u)
          | inr z ↦ let u : eqb (high t + d - b) (high t + d) ≡ false = omega (arith, tests, lifts) in rw (k, z, u, s)
        ]
    | inr k ↦
        let u : eqb (high t + d - b) (high t + d) ≡ false = omega (arith, tests, lifts) in
        let v : high t - (b - d) ≡ high t + d - b = omega (arith, tests) in
        rw (k, u) (i.same (b - d) (omega (arith, tests)) ∙ ap (settled t) v)
  ]

  pub shifted_far : (b : ℕ) → w.size + d < b → shifted w d b ≡ true
  shifted_far b l = let k : ltb b d ≡ false = omega (arith, lifts) in rw k (processed_beyond w (b - d) (omega arith))

  -- behind the new highest, unprocessed by the log
  pub open_shifted : (b : ℕ) → 1 ≤ b → b ≤ high t + d → unprocessed t (high t + d - b) ≡ not (shifted w d b)
  open_shifted b p l =
      let u : eqb (high t + d - b) (high t + d) ≡ false = omega (arith, lifts) in
      let s : shifted w d b ≡ settled t (high t + d - b) = shifted_same b l ∙ rw u in
      unprocessed_is t (high t + d - b) ∙ ap not (sym s)

  pub lost_near : (b : ℕ) → 1 ≤ b → unprocessed t (high t + d - b) ≡ true → (origin + b ≤ high t + d) × (b ≤ w.size + d) × (b < turn)
  lost_near b p e = elim (split (ltb (high t + d) (origin + b))) [
    | inl k ↦ let z : high t + d - b < origin = omega (arith, tests) in absurd (never e (before_0 t (high t + d - b) z))
    | inr k ↦ elim (split (ltb (w.size + d) b)) [
      | inl m ↦
          let f : unprocessed t (high t + d - b) ≡ false = open_shifted b p (omega (arith, tests)) ∙ ap not (shifted_far b (omega (arith, tests))) in
          absurd (never e f)
      | inr m ↦ (omega (arith, tests), omega (arith, tests), omega (arith, tests, i.valid.most))
    ]
  ]

  -- what the window holds, or left behind
  kept_or_lost : (b : ℕ) → b ≤ high t + d → cond (leb b w.size) (shifted w d b) true ≡ (shifted w d b || (leb (w.size + 1) b && unprocessed t (high t + d - b)))
  kept_or_lost b l = elim (split (leb b w.size)) [
    | inl k ↦ let u : leb (w.size + 1) b ≡ false = omega (arith, tests, lifts) in rw (k, u) (sym (or-false (shifted w d b)))
    | inr k ↦
        let u : leb (w.size + 1) b ≡ true = omega (arith, tests, lifts) in
        rw (k, u) (rw (open_shifted b (omega (arith, tests)) l) (all (shifted w d b)))
  ]
    where
      all : (y : Bool) → true ≡ (y || not y)
      all true = refl
      all false = refl

  lost_inside : (b : ℕ) → w.size + 1 ≤ b → unprocessed t (high t + d - b) ≡ true
      → (b < w.size + 1 + (high t + d - origin - w.size)) × (b ≤ high t + d) × (b < turn)
  lost_inside b p e = let j = lost_near b (omega arith) e in (omega (arith, j.0), omega (arith, j.0), j.2)

  lost_between : (a x b : ℕ) → w.size + 1 ≤ a → a ≤ x → x ≤ b → unprocessed t (high t + d - a) ≡ true → unprocessed t (high t + d - b) ≡ true → shifted w d x ≡ false
      → unprocessed t (high t + d - x) ≡ true
  lost_between a x b p q r ea eb ex = let j = lost_near b (omega arith) eb in open_shifted x (omega arith) (omega (arith, j.0)) ∙ ap not ex

  module _ (seq gap : ℕ) (ws : List ℕ) (hi : max (high t) (place (high t) seq) ≡ high t + d) (pl : place (high t) seq ≡ high t + d) (nm : (high t + d) % turn ≡ seq) where
    abbrev left : (Option SeqRange)
    left = span_from (high t + d) (ends_of (λ b. unprocessed t (high t + d - b)) (w.size + 1) (high t + d - origin - w.size))

    left_marks : (b : ℕ) → b ≤ high t + d
        → (shifted w d b || (leb (w.size + 1) b && unprocessed t (high t + d - b)))
        ≡ (in_loss (high t + d) left (high t + d - b) || (eqb (high t + d - b) (high t + d) || settled t (high t + d - b)))
    left_marks =
        loss_marks (high t + d) (w.size + 1) (high t + d - origin - w.size) (λ b. unprocessed t (high t + d - b)) (shifted w d) (λ x. eqb x (high t + d) || settled t x)
        shifted_same lost_inside lost_between

    left_below : (z : ℕ) → high t + d < z → in_loss (high t + d) left z ≡ false
    left_below =
        loss_below (high t + d) (w.size + 1) (high t + d - origin - w.size) (λ b. unprocessed t (high t + d - b)) (shifted w d) (λ x. eqb x (high t + d) || settled t x)
        shifted_same lost_inside lost_between

    pub held_new : Held (new_of w seq d).window (heard seq ws (New gap) (lost_at w.size t (high t + d)) ∷ t)
    unfolding new_of lost_at
    held_new = record {
      valid = valid_new w i.valid seq d;
      highest = rw hi (sym nm);
      low = rw hi (omega (arith, i.low));
      same = λ b l.
          let l' : b ≤ high t + d = rw hi at l in
          processed_new w seq d b some ∙ kept_or_lost b l' ∙ rw (hi, pl) (left_marks b l');
      clear = λ x l.
          let l' : high t + d < x = rw hi at l in
          let v : eqb x (high t + d) ≡ false = omega (arith, lifts) in
          rw (hi, pl) (rw (left_below x l', v) (i.clear x (omega arith)));
      once = λ x. rw pl (elim (split (eqb x (high t + d))) [
        | inl k ↦ let o = open_is t x (i.clear x (omega (arith, tests))) in rw k (omega (arith, o.1))
        | inr k ↦ rw k (i.once x)
      ]);
      before = λ x l. let v : eqb x (high t + d) ≡ false = omega (arith, lifts, i.low) in rw (pl, v) (i.before x l);
    }
