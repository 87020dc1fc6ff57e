-- Missing positions are reported and marked: the window after it is what the log says.
use Prim.Native.Nat.{ℕ, ◌+◌, ◌-◌, ◌%◌, ◌≤◌, ◌<◌}
use mathlib.Core.Path.{◌≡◌, refl, ap, ◌∙◌}
use mathlib.Core.Bool.{Bool, true, false, not, ◌||◌, ◌&&◌}
use mathlib.Core.List.{List, ◌∷◌}
use native.Mathlib.Omega.{arith}
use lib.Dec.{leb}
use borrow.Author.Tests.{le-leb}
use Rattle.config.specs.Range.{within}
use Rattle.config.specs.Sequence.{turn}
use Rattle.config.specs.inner.Tests.{and_left, and_right}
use Rattle.command.specs.declared.retransmit.RetransmitRequest.{RetransmitRequest}
use Rattle.window.specs.Window.{Valid, behind, fresh_of, processed}
use Rattle.window.specs.Marking.{in_range, mark_of}
use Rattle.window.specs.declared.window.ReceiveWindow.{ReceiveWindow}
use Rattle.window.specs.declared.window.SeqRange.{SeqRange}
use Rattle.config.specs.inner.Ranges.{within_yes}
use Rattle.window.proofs.Positions.{processed_fresh, unprocessed_in}
use Rattle.window.proofs.AfterMark.{processed_mark}
use Rattle.window.proofs.Preserved.{valid_all, valid_mark}
use Rattle.receiver_log.specs.Log.{Report, told, high, unprocessed}
use Rattle.receiver_log.specs.Spans.{ends_of, span_from, missing_ends, missing_in, asked_for}
use Rattle.receiver_log.proofs.Settled.{settled}
use Rattle.receiver_log.proofs.Numbers.{number_behind, range_convex}
use Rattle.receiver_log.proofs.Losses.{loss_marks, loss_below}
use Rattle.receiver_log.proofs.Held.{Held, open_at, open_in, near}

module _ {w : ReceiveWindow} {t : List Report} (i : Held w t) where
  -- the missing positions that f holds of
  module _ (w' : ReceiveWindow) (v : Valid w') (h : w'.highest ≡ w.highest) (f : ℕ → Bool)
      (only : (b : ℕ) → f b ≡ true → unprocessed t (high t - b) ≡ true)
      (convex : (a x b : ℕ) → a ≤ x → x ≤ b → b ≤ w.size → f a ≡ true → f b ≡ true → unprocessed t (high t - x) ≡ true → f x ≡ true)
      (after : (b : ℕ) → b ≤ high t → processed w' b ≡ (processed w b || (leb 1 b && f b))) where
    inside : (b : ℕ) → 1 ≤ b → f b ≡ true → (b < 1 + w.size) × (b ≤ high t) × (b < turn)
    inside b p e = let j = open_in i b (only b e) in let n = near i in (omega (arith, j.1), j.2, omega (arith, j.1, n.0))

    between : (a x b : ℕ) → 1 ≤ a → a ≤ x → x ≤ b → f a ≡ true → f b ≡ true → processed w x ≡ false → f x ≡ true
    between a x b p q r ea eb ex =
        let j = open_in i b (only b eb) in
        convex a x b q r j.1 ea eb (open_at i x (omega (arith, j.2)) ∙ ap not ex)

    pub held_told : Held w' (told (span_from (high t) (ends_of f 1 w.size)) ∷ t)
    held_told = record {
      valid = v;
      highest = h ∙ i.highest;
      low = i.low;
      same = λ b l. after b l ∙ loss_marks (high t) 1 w.size f (processed w) (settled t) i.same inside between b l;
      clear = λ x l. rw (loss_below (high t) 1 w.size f (processed w) (settled t) i.same inside between x l) (i.clear x l);
      once = i.once;
      before = i.before;
    }

  -- ---- all of them

  pub held_all : Held (fresh_of w.size w.highest) (told (missing_in w.size t) ∷ t)
  unfolding missing_ends
  held_all =
      held_told (fresh_of w.size w.highest) (valid_all w i.valid) refl (λ b. unprocessed t (high t - b)) (λ b e. e) (λ a x b p q r ea eb ex. ex)
      (λ b l. processed_fresh w.size w.highest b ∙ now_all b l (processed w b) refl)
    where
      now_all : (b : ℕ) → b ≤ high t → (y : Bool) → processed w b ≡ y → true ≡ (processed w b || (leb 1 b && unprocessed t (high t - b)))
      now_all b l true e = rw e
      now_all b l false e = let j = unprocessed_in w b e in rw (open_at i b l, e, le-leb 1 b j.0)

  -- ---- those that a request asks for

  pub held_mark : (q : RetransmitRequest) → q.seq < turn → q.count ≤ w.size
      → Held (mark_of w (record { first = q.seq; count = q.count })).window (told (asked_for w.size t q) ∷ t)
  unfolding mark_of asked_for
  held_mark q p c =
      held_told (mark_of w range).window (valid_mark w i.valid range) refl f
      (λ b e. and_left _ _ e)
      (λ a x b l m r ea eb ex.
      let n = near i in
      rw ex
      (range_convex (high t) q.seq q.count w.size (omega (arith, n.0)) (omega (arith, n.0, n.1)) c p a x b l m r
      (and_right (unprocessed t (high t - a)) _ ea) (and_right (unprocessed t (high t - b)) _ eb)))
      (λ b l. processed_mark w i.valid range b ∙ now b l (processed w b) refl)
    where
      range : SeqRange
      range = record { first = q.seq; count = q.count }

      f : ℕ → Bool
      f b = unprocessed t (high t - b) && in_range range ((high t - b) % turn)

      now : (b : ℕ) → b ≤ high t → (y : Bool) → processed w b ≡ y
          → (processed w b || (within 1 w.size b && in_range range (behind w.highest b))) ≡ (processed w b || (leb 1 b && f b))
      now b l true e = rw e
      now b l false e =
          let j = unprocessed_in w b e in
          let n = near i in
          let at : behind w.highest b ≡ (high t - b) % turn = ap (λ (h : ℕ). behind h b) i.highest ∙ number_behind (high t) b l (omega (arith, j.1, n.0)) in
          rw (e, within_yes 1 w.size b j.0 j.1, le-leb 1 b j.0, open_at i b l, e) (ap (in_range range) at)
