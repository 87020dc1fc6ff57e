-- Demand 3's second sentence and the missing span, from what ties a window to the log.
use Prim.Native.Nat.{ℕ, ◌+◌, ◌-◌, ◌%◌, ◌≤◌}
use Rattle.std.proofs.Common.{Some}
use mathlib.Core.Path.{◌≡◌, ap, sym, ◌∙◌, subst}
use mathlib.Core.Logic.{inl, inr}
use mathlib.Core.Bool.{true, not}
use mathlib.Core.List.{List}
use native.Mathlib.Omega.{arith}
use lib.Dec.{leb, eqb}
use Rattle.config.specs.Sequence.{turn}
use Rattle.config.specs.inner.Tests.{split, lifts}
use Rattle.window.specs.Window.{missing_span}
use Rattle.window.specs.declared.window.ReceiveWindow.{ReceiveWindow}
use Rattle.receiver_log.specs.Log.{Report, origin, high, times, lost, unprocessed, Missing}
use Rattle.receiver_log.specs.Spans.{Ends, none, ends, ends_of, span_from, missing_ends}
use Rattle.receiver_log.specs.Promise.{Promise, FromTo, nothing, from}
use Rattle.receiver_log.proofs.EndsOf.{EndsOk, ends_ok}
use Rattle.config.specs.inner.Choices.{never, not_true}
use Rattle.receiver_log.proofs.Settled.{settled, open_is, is_open, unprocessed_is}
use Rattle.receiver_log.proofs.Held.{Held, open_in}
use Rattle.receiver_log.proofs.SpanIs.{missing_span_lem}

-- ---- missing, as a test

missing_open : (W : ℕ) (t : List Report) (x : ℕ) → Missing W t x → unprocessed t x ≡ true
unfolding unprocessed
missing_open W t x m =
    let a : leb origin x ≡ true = omega (arith, lifts, m.from_0) in
    let b : eqb (times t x) 0 ≡ true = omega (arith, lifts, m.not_handed_on) in
    rw (a, b, m.not_lost)

-- the place of a position behind, and back
back_at : (t : List Report) (x : ℕ) → x ≤ high t → high t - (high t - x) ≡ x
back_at t x l = omega arith

module _ {w : ReceiveWindow} {t : List Report} (i : Held w t) where
  open_missing : (b : ℕ) → unprocessed t (high t - b) ≡ true → Missing w.size t (high t - b)
  open_missing b e =
      let j = open_in i b e in
      let o = open_is t (high t - b) (not_true (settled t (high t - b)) (sym (unprocessed_is t (high t - b)) ∙ e)) in
      record { from_0 = o.0; below = omega (arith, j.0, j.2); within_W = omega (arith, j.1, j.2); not_handed_on = o.1; not_lost = o.2 }

  -- ---- demand 3

  pub promised : Promise w.size t
  promised = record {
    once = λ x l m. i.once x;
    accounted = λ x l m z. elim (split (lost t x)) [
      | inl k ↦ inl k
      | inr k ↦
          let o : unprocessed t x ≡ true = unprocessed_is t x ∙ ap not (is_open t x l z k) in
          inr
          (subst (Missing w.size t) (back_at t x m)
          (open_missing (high t - x) (ap (unprocessed t) (back_at t x m) ∙ o)))
    ];
    nothing_before = i.before;
    nothing_above = λ x l. (open_is t x (i.clear x l)).1;
  }

  -- ---- the missing span

  reaches : (s : Ends) → EndsOk (λ b. unprocessed t (high t - b)) 1 w.size s → FromTo w.size t (span_from (high t) s)
  reaches none h =
      nothing
      (λ x m.
      let l : x ≤ high t = omega (arith, m.below) in
      never (ap (unprocessed t) (back_at t x l) ∙ missing_open w.size t x m)
      (h (high t - x) (omega (arith, m.below)) (omega (arith, m.within_W))))
  reaches (ends x y) h =
      subst (λ (n : ℕ). FromTo w.size t (Some record { first = (high t - y) % turn; count = n })) (count (open_in i y h.oldest).2 h.order)
      (from (high t - y) (high t - x) (open_missing y h.oldest) (open_missing x h.newest)
      (λ z m.
      let l : z ≤ high t = omega (arith, m.below) in
      let k =
      h.all (high t - z) (omega (arith, m.below)) (omega (arith, m.within_W)) (ap (unprocessed t) (back_at t z l) ∙ missing_open w.size t z m) in
      (omega (arith, k.1), omega (arith, k.0))))
    where
      count : y ≤ high t → x ≤ y → high t - x - (high t - y) + 1 ≡ y - x + 1
      count l o = omega arith

  pub span_reaches : FromTo w.size t (missing_span w)
  unfolding missing_ends
  span_reaches =
      subst (FromTo w.size t) (sym (missing_span_lem i))
      (reaches (ends_of (λ b. unprocessed t (high t - b)) 1 w.size) (ends_ok (λ b. unprocessed t (high t - b)) 1 w.size))
