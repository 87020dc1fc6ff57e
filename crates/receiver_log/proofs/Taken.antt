-- `accept` answers class and loss by the log, and leaves a window that the log says.
use Prim.Native.Nat.{ℕ, ◌+◌, ◌-◌, ◌%◌, ◌<◌}
use Rattle.std.proofs.Common.{Option}
use Rattle.window.specs.declared.window.SeqRange.{SeqRange}
use mathlib.Core.Path.{◌≡◌, refl, ap, sym, ◌∙◌, subst}
use mathlib.Core.Logic.{inl, inr}
use mathlib.Core.Bool.{Bool, true, false, cond, not, ◌&&◌}
use mathlib.Core.List.{List, ◌∷◌}
use native.Mathlib.Omega.{arith}
use Rattle.config.specs.Range.{within}
use Rattle.config.specs.Sequence.{turn, ahead}
use Rattle.config.specs.inner.Tests.{split}
use Rattle.window.specs.Window.{processed}
use Rattle.window.specs.Arrival.{reach, new_of, late_at, unchanged, accept_of}
use Rattle.window.specs.declared.window.ReceiveWindow.{ReceiveWindow}
use Rattle.window.specs.declared.window.Arrival.{Arrival}
use Rattle.window.specs.declared.window.Class.TheVariants.{New, Late, Duplicate}
use Rattle.config.specs.inner.Ranges.{within_yes}
use Rattle.window.proofs.Positions.{unprocessed_in}
use Rattle.window.proofs.Accepts.{accept_as_new, accept_as_late, accept_as_duplicate}
use Rattle.receiver_log.specs.Log.{Report, heard, is_ahead, place, high, unprocessed}
use Rattle.receiver_log.specs.Spans.{class_in, lost_at, lost_in}
use Rattle.config.specs.inner.Choices.{and_both, cond_true}
use Rattle.receiver_log.proofs.Numbers.{ahead_by, place_ahead, high_ahead, place_behind, behind_by, number_ahead}
use Rattle.receiver_log.proofs.Held.{Held, open_at}
use Rattle.receiver_log.proofs.Arrivals.{held_late, held_duplicate, held_new}
use Rattle.receiver_log.proofs.SpanIs.{lost_span}

pub record TakenOk (w : ReceiveWindow) (t : List Report) (seq : ℕ) (ws : List ℕ) (k : Arrival) : Type 0 where
  pub held : Held k.window (heard seq ws k.class k.lost ∷ t)
  pub size : k.window.size ≡ w.size
  pub class : k.class ≡ class_in w.size t seq
  pub lost : k.lost ≡ lost_in w.size t seq

module _ (w : ReceiveWindow) (t : List Report) (seq : ℕ) (ws : List ℕ) (i : Held w t) (l : seq < turn) where
  -- ---- ahead

  taken_new : is_ahead (high t) seq ≡ true → TakenOk w t seq ws (new_of w seq (ahead (high t % turn) seq))
  unfolding new_of class_in lost_in
  taken_new e =
      let by = ahead_by (high t) seq e in
      let pl = place_ahead (high t) seq e in
      let nm = number_ahead (high t) seq l in
      let ls : (new_of w seq (ahead (high t % turn) seq)).lost ≡ lost_at w.size t (high t + ahead (high t % turn) seq) =
      lost_span i (ahead (high t % turn) seq) by.0 by.1 seq nm in
      record {
        held =
            subst (λ (s : Option SeqRange). Held (new_of w seq (ahead (high t % turn) seq)).window (heard seq ws (New (ahead (high t % turn) seq - 1)) s ∷ t)) (sym ls)
            (held_new w t (ahead (high t % turn) seq) i by.0 by.1 seq (ahead (high t % turn) seq - 1) ws (high_ahead (high t) seq e) pl nm);
        size = refl;
        class = rw e;
        lost = ls ∙ rw (e, pl);
      }

  -- ---- behind

  module _ (e : is_ahead (high t) seq ≡ false) where
    abbrev back : ℕ
    back = ahead seq (high t % turn)

    open_back : unprocessed t (place (high t) seq) ≡ not (processed w back)
    open_back =
        let far = behind_by (high t) seq e l in
        ap (unprocessed t) (place_behind (high t) seq e) ∙ open_at i back (omega (arith, far, i.low))

    taken_late : processed w back ≡ false → TakenOk w t seq ws (late_at w (back - 1))
    unfolding class_in lost_in
    taken_late f =
        let j = unprocessed_in w back f in
        let o : unprocessed t (place (high t) seq) ≡ true = open_back ∙ ap not f in
        record {
          held = held_late w t seq ws i e l f;
          size = refl;
          class = rw e (cond_true Late Duplicate (and_both (within_yes 1 w.size back j.0 j.1) o));
          lost = rw e;
        }

    taken_duplicate : processed w back ≡ true → TakenOk w t seq ws (unchanged w)
    unfolding class_in lost_in
    taken_duplicate f =
        let o : unprocessed t (place (high t) seq) ≡ false = open_back ∙ ap not f in
        record { held = held_duplicate w t seq ws i e; size = refl; class = rw (e, o) (none (within 1 w.size back)); lost = rw e }
      where
        none : (y : Bool) → Duplicate ≡ cond (y && false) Late Duplicate
        none true = refl
        none false = refl

  pub accept_ok : TakenOk w t seq ws (accept_of w seq)
  unfolding is_ahead
  accept_ok = elim (split (is_ahead (high t) seq)) [
    | inl e ↦ subst (TakenOk w t seq ws) (sym (accept_as_new w seq (ap (within 1 reach) forth ∙ e) ∙ ap (new_of w seq) forth)) (taken_new e)
    | inr e ↦ elim (split (processed w (ahead seq (high t % turn)))) [
      | inl f ↦ subst (TakenOk w t seq ws) (sym (accept_as_duplicate w seq (ap (within 1 reach) forth ∙ e) (ap (processed w) behind ∙ f))) (taken_duplicate e f)
      | inr f ↦
          subst (TakenOk w t seq ws)
          (sym (accept_as_late w seq (ap (within 1 reach) forth ∙ e) (ap (processed w) behind ∙ f) ∙ ap (λ (b : ℕ). late_at w (b - 1)) behind))
          (taken_late e f)
    ]
  ]
    where
      forth : ahead w.highest seq ≡ ahead (high t % turn) seq
      forth = ap (λ (h : ℕ). ahead h seq) i.highest

      behind : ahead seq w.highest ≡ ahead seq (high t % turn)
      behind = ap (ahead seq) i.highest
