-- One message, by what its first word is.
use Prim.Native.Nat.{ℕ, ◌≤◌, ◌<◌}
use mathlib.Core.Path.{◌≡◌, refl, sym, ◌∙◌}
use mathlib.Core.Bool.{Bool, true, false, cond, ◌&&◌}
use mathlib.Core.List.{List, ◌∷◌}
use native.Mathlib.Omega.{arith}
use lib.Dec.{eqb, leb}
use borrow.Author.Tests.{leb-true}
use Rattle.config.specs.inner.Tests.{and_left, and_right}
use Rattle.notes.specs.Notes.{type_of, group_of, key_of, velocity_of, note_of, is_ours, is_on, is_off, effect_of, holds_it, releases_it, on_for, off_for}
use Rattle.held_notes.specs.Calls.{message, held_after}
use Rattle.held_notes.specs.State.{all_notes, has, Turned, Played}

-- ---- the note

pub note_range : (g w : ℕ) → is_ours g w ≡ true → note_of w < all_notes
unfolding is_ours note_of
note_range g w e =
    let k : key_of w ≤ 0x7F =
    leb-true _ _ (and_left (leb (key_of w) 0x7F) (leb (velocity_of w) 0x7F) (and_right (eqb (type_of w) 2 && eqb (group_of w) g) (leb (key_of w) 0x7F && leb (velocity_of w) 0x7F) e)) in
    omega arith

-- ---- what is held after it

-- by its effect
by_effect : (g k : ℕ) (b new : Bool) (m : List ℕ)
    → held_after g k b (message new m) ≡ cond (releases_it k (effect_of g m)) false (cond (new && holds_it k (effect_of g m)) true b)
unfolding held_after on_for off_for
by_effect g k b new m = refl

not_both : (new b : Bool) → cond (new && false) true b ≡ b
not_both true b = refl
not_both false b = refl

module _ (g w : ℕ) (before after : List ℕ) where
  module _ (e : is_ours g w ≡ true) where
    pub played_on : (n : ℕ) → n ≡ note_of w → is_on w ≡ true → Turned true n before after → Played g true w before after
    unfolding effect_of
    played_on n i o t rest k = t k ∙ rw i (sym (by_effect g k (has before k) true (w ∷ rest) ∙ rw (e, o)))

    pub played_late : is_on w ≡ true → Played g false w before before
    unfolding effect_of
    played_late o rest k = sym (by_effect g k (has before k) false (w ∷ rest) ∙ rw (e, o))

    pub played_off : (new : Bool) (n : ℕ) → n ≡ note_of w → is_on w ≡ false → is_off w ≡ true → Turned false n before after → Played g new w before after
    unfolding effect_of
    played_off new n i o f t rest k =
        t k ∙ rw i (sym (by_effect g k (has before k) new (w ∷ rest) ∙ rw (e, o, f, not_both new (has before k))))

    pub played_other : (new : Bool) → is_on w ≡ false → is_off w ≡ false → Played g new w before before
    unfolding effect_of
    played_other new o f rest k = sym (by_effect g k (has before k) new (w ∷ rest) ∙ rw (e, o, f) (not_both new (has before k)))

  pub played_not_ours : (new : Bool) → is_ours g w ≡ false → Played g new w before before
  unfolding effect_of
  played_not_ours new e rest k = sym (by_effect g k (has before k) new (w ∷ rest) ∙ rw e (not_both new (has before k)))
