-- Laws of moments, for one note of one group.
use Prim.Native.Nat.{ℕ}
use mathlib.Core.Path.{◌≡◌, refl, ap, sym, ◌∙◌}
use mathlib.Core.Logic.{inl, inr}
use mathlib.Core.Bool.{Bool, true, false, cond, ◌&&◌}
use mathlib.Core.List.{List, [], ◌∷◌, ◌++◌}
use Rattle.config.specs.inner.Choices.{never}
use Rattle.config.specs.inner.Tests.{split}
use Rattle.notes.specs.Notes.{Effect, holds, releases, nothing, effect_of, holds_it, releases_it, on_for, off_for}
use Rattle.held_notes.specs.Calls.{Moment, silence, message, messages, held_after, held_through}

module _ (g k : ℕ) where
  -- no message is both
  pub on_not_off : (m : List ℕ) → on_for g k m ≡ true → off_for g k m ≡ false
  unfolding on_for off_for
  on_not_off m e = go (effect_of g m) e
    where
      go : (f : Effect) → holds_it k f ≡ true → releases_it k f ≡ false
      go (holds n) e = refl
      go (releases n) e = absurd (never e refl)
      go nothing e = refl

  -- ---- one moment

  pub after_silence : (b : Bool) → held_after g k b silence ≡ false
  unfolding held_after
  after_silence b = refl

  pub after_off : (b new : Bool) (m : List ℕ) → off_for g k m ≡ true → held_after g k b (message new m) ≡ false
  unfolding held_after
  after_off b new m e = rw e

  pub after_on : (b : Bool) (m : List ℕ) → on_for g k m ≡ true → held_after g k b (message true m) ≡ true
  unfolding held_after
  after_on b m e = rw (on_not_off m e, e)

  -- what is neither leaves it
  pub after_other : (b new : Bool) (m : List ℕ) → off_for g k m ≡ false → (new && on_for g k m) ≡ false → held_after g k b (message new m) ≡ b
  unfolding held_after
  after_other b new m e f = rw (e, f)

  pub after_held : (new : Bool) (m : List ℕ) → off_for g k m ≡ false → held_after g k true (message new m) ≡ true
  unfolding held_after
  after_held new m e = rw e (by (new && on_for g k m))
    where
      by : (t : Bool) → cond t true true ≡ true
      by true = refl
      by false = refl

  pub after_not_off : (b new : Bool) (m : List ℕ) → held_after g k b (message new m) ≡ true → off_for g k m ≡ false
  after_not_off b new m e = elim (split (off_for g k m)) [
    | inl f ↦ absurd (never e (after_off b new m f))
    | inr f ↦ f
  ]

  -- ---- several

  pub through_append : (ms ns : List Moment) (b : Bool) → held_through g k b (ms ++ ns) ≡ held_through g k (held_through g k b ms) ns
  through_append [] ns b = refl
  through_append (m ∷ ms) ns b = through_append ms ns (held_after g k b m)

  pub first : (b c : Bool) (m : Moment) (ms : List Moment) → held_after g k b m ≡ c → held_through g k b (m ∷ ms) ≡ held_through g k c ms
  first b c m ms e = ap (λ (y : Bool). held_through g k y ms) e

  -- ---- messages of New commands

  abbrev pub play : Bool → List (List ℕ) → Bool
  play b ms = held_through g k b (messages true ms)

  pub play_append : (ms ns : List (List ℕ)) (b : Bool) → play b (ms ++ ns) ≡ play (play b ms) ns
  play_append [] ns b = refl
  play_append (m ∷ ms) ns b = play_append ms ns (held_after g k b (message true m))

  -- held where none was held before: held where any were
  pub play_any : (ms : List (List ℕ)) (b : Bool) → play false ms ≡ true → play b ms ≡ true
  play_any [] b e = absurd (never e refl)
  play_any (m ∷ ms) b e = elim (split (off_for g k m)) [
    | inl f ↦ first b false (message true m) (messages true ms) (after_off b true m f) ∙ sym (first false false (message true m) (messages true ms) (after_off false true m f)) ∙ e
    | inr f ↦ elim (split (on_for g k m)) [
      | inl o ↦ first b true (message true m) (messages true ms) (after_on b m o) ∙ sym (first false true (message true m) (messages true ms) (after_on false m o)) ∙ e
      | inr o ↦
          first b b (message true m) (messages true ms) (after_other b true m f o)
          ∙ play_any ms b (sym (first false false (message true m) (messages true ms) (after_other false true m f o)) ∙ e)
    ]
  ]

  -- ---- messages of Late commands

  -- none is held by them
  pub late_none : (ms : List (List ℕ)) → held_through g k false (messages false ms) ≡ false
  late_none [] = refl
  late_none (m ∷ ms) = elim (split (off_for g k m)) [
    | inl f ↦ first false false (message false m) (messages false ms) (after_off false false m f) ∙ late_none ms
    | inr f ↦ first false false (message false m) (messages false ms) (after_other false false m f refl) ∙ late_none ms
  ]

  pub late_held : (ms : List (List ℕ)) (b : Bool) → held_through g k b (messages false ms) ≡ true → b ≡ true
  late_held ms true e = refl
  late_held ms false e = absurd (never e (late_none ms))

  -- what they leave held, New ones would
  pub late_play : (ms : List (List ℕ)) → held_through g k true (messages false ms) ≡ true → play true ms ≡ true
  late_play [] e = refl
  late_play (m ∷ ms) e = elim (split (off_for g k m)) [
    | inl f ↦ absurd (never e (first true false (message false m) (messages false ms) (after_off true false m f) ∙ late_none ms))
    | inr f ↦
        first true true (message true m) (messages true ms) (after_held true m f)
        ∙ late_play ms (sym (first true true (message false m) (messages false ms) (after_held false m f)) ∙ e)
  ]
