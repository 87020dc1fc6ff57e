-- A note is held exactly when an on for it was handed on with a New command and nothing disturbed it since.
use Prim.Native.Nat.{ℕ}
use mathlib.Core.Path.{◌≡◌, refl, sym, ◌∙◌, ap}
use mathlib.Core.Logic.{◌⊎◌, inl, inr}
use mathlib.Core.Bool.{Bool, true, false, ◌&&◌}
use mathlib.Core.List.{List, [], ◌∷◌}
use Rattle.config.specs.inner.Choices.{never}
use Rattle.config.specs.inner.Tests.{split, and_left, and_right}
use Rattle.notes.specs.Notes.{on_for, off_for}
use Rattle.held_notes.specs.Calls.{Moment, silence, message, held_after, held_through, Call, moments_of, moments_in, held_in}
use Rattle.held_notes.specs.Theorems.{Undisturbed, HeldBy, HeldExactly}
use Rattle.held_notes.proofs.Moments.{after_silence, after_off, after_on, after_other, after_held, through_append}

module _ (g k : ℕ) where
  earlier : (n : Moment) (ms : List Moment) → HeldBy g k ms → HeldBy g k (n ∷ ms)
  earlier n ms h = record {
    before = n ∷ h.before;
    on = h.on;
    since = h.since;
    moments = ap (λ (l : List Moment). n ∷ l) h.moments;
    is_on = h.is_on;
    undisturbed = h.undisturbed;
  }

  -- held before and undisturbed, or held by an on among these moments
  abbrev Why : Bool → List Moment → Type 0
  Why b ms = ((b ≡ true) × Undisturbed g k ms) ⊎ HeldBy g k ms

  from_none : (n : Moment) (b : Bool) (ms : List Moment) → Why false ms → Why b (n ∷ ms)
  from_none n b ms (inl w) = absurd (never w.0 refl)
  from_none n b ms (inr h) = inr (earlier n ms h)

  from_on : (new b : Bool) (m : List ℕ) (ms : List Moment) → (new && on_for g k m) ≡ true → Why true ms → Why b (message new m ∷ ms)
  from_on new b m ms e (inl w) =
      inr record {
        before = [];
        on = m;
        since = ms;
        moments = ap (λ (y : Bool). message y m ∷ ms) (and_left new (on_for g k m) e);
        is_on = and_right new (on_for g k m) e;
        undisturbed = w.1;
      }
  from_on new b m ms e (inr h) = inr (earlier (message new m) ms h)

  from_other : (new b : Bool) (m : List ℕ) (ms : List Moment) → off_for g k m ≡ false → Why b ms → Why b (message new m ∷ ms)
  from_other new b m ms e (inl w) = inl (w.0, (e, w.1))
  from_other new b m ms e (inr h) = inr (earlier (message new m) ms h)

  why : (ms : List Moment) (b : Bool) → held_through g k b ms ≡ true → Why b ms
  why [] b e = inl (e, tt)
  why (silence ∷ ms) b e = from_none silence b ms (why ms false (rw (after_silence g k b) at e))
  why (message new m ∷ ms) b e = elim (split (off_for g k m)) [
    | inl f ↦ from_none (message new m) b ms (why ms false (rw (after_off g k b new m f) at e))
    | inr f ↦ elim (split (new && on_for g k m)) [
      | inl o ↦ from_on new b m ms o (why ms true (rw (on b o) at e))
      | inr o ↦ from_other new b m ms f (why ms b (rw (after_other g k b new m f o) at e))
    ]
  ]
    where
      on : (b : Bool) → (new && on_for g k m) ≡ true → held_after g k b (message new m) ≡ true
      on b o = let n : new ≡ true = and_left new (on_for g k m) o in rw n (after_on g k b m (and_right new (on_for g k m) o))

  pub undisturbed_held : (ms : List Moment) → Undisturbed g k ms → held_through g k true ms ≡ true
  undisturbed_held [] u = refl
  undisturbed_held (silence ∷ ms) u = absurd u
  undisturbed_held (message new m ∷ ms) u = rw (after_held g k new m u.0) (undisturbed_held ms u.1)

  by_on : (ms : List Moment) (b : Bool) → HeldBy g k ms → held_through g k b ms ≡ true
  by_on ms b h =
      rw (h.moments, through_append g k h.before (message true h.on ∷ h.since) b, after_on g k (held_through g k b h.before) h.on h.is_on)
      (undisturbed_held h.since h.undisturbed)

  -- one call after the other, or all their moments at once
  pub held_moments : (t : List Call) → held_in g k t ≡ held_through g k false (moments_in t)
  held_moments [] = refl
  held_moments (c ∷ t) = rw (held_moments t) (sym (through_append g k (moments_in t) (moments_of c) false))

pub held_exactly : HeldExactly
held_exactly g k t = (to, from)
  where
    chosen : Why g k false (moments_in t) → HeldBy g k (moments_in t)
    chosen (inl w) = absurd (never w.0 refl)
    chosen (inr h) = h

    to : held_in g k t ≡ true → HeldBy g k (moments_in t)
    to e = chosen (why g k (moments_in t) false (sym (held_moments g k t) ∙ e))

    from : HeldBy g k (moments_in t) → held_in g k t ≡ true
    from h = held_moments g k t ∙ by_on g k (moments_in t) false h
