-- 02, 4/14: what holds of the held notes after every list of calls.
use Rattle.std.specs.Prelude.{ℕ, ◌≤◌, ◌<◌, ◌≡◌, ◌↔◌, true, false, cond, List, [], ◌∷◌, ◌++◌}
use Rattle.notes.specs.Notes.{on_for, off_for}
use Rattle.held_notes.specs.State.{all_notes, has, notes_below}
use Rattle.held_notes.specs.Answers.{notes_of, silences, refused_of, answer_of, none_held, start_of}
use Rattle.held_notes.specs.declared.listing.Notes.{Notes}
use Rattle.held_notes.specs.declared.held.HeldNotes.{HeldNotes}
use Rattle.held_notes.specs.Calls.{Moment, silence, message, Call, moments_in, held_in}

-- ---- held exactly when

-- no loss, no restart and no release of the note
abbrev pub Undisturbed : ℕ → ℕ → List Moment → Type 0
Undisturbed g k [] = Unit {0}
Undisturbed g k (silence ∷ ms) = ⊥
Undisturbed g k (message new m ∷ ms) = (off_for g k m ≡ false) × Undisturbed g k ms

-- an on for it was handed on with a New command, and nothing disturbed it since
pub record HeldBy (g k : ℕ) (ms : List Moment) : Type 0 where
  pub before : List Moment
  pub on : List ℕ
  pub since : List Moment
  pub moments : ms ≡ before ++ (message true on ∷ since)
  pub is_on : on_for g k on ≡ true
  pub undisturbed : Undisturbed g k since

abbrev pub HeldExactly : Type 0
HeldExactly = (g k : ℕ) (t : List Call) → (held_in g k t ≡ true) ↔ HeldBy g k (moments_in t)

-- ---- what the calls leave

-- the state after a list of calls, from a start on
abbrev pub left_by : ℕ → List Call → HeldNotes
left_by g [] = (start_of g).state
left_by g (c ∷ t) = (answer_of (left_by g t) c).state

-- the notes that a list of calls leaves held, by channel, then note, each once
unfoldable pub list_in : ℕ → List Call → Notes
list_in g t = notes_of (notes_below (λ (k : ℕ). held_in g k t) all_notes)

-- the state is of the group and holds what the calls say, and a next call gives these notes if it is a loss or a restart
pub record Kept (g : ℕ) (t : List Call) : Type 0 where
  pub group : (left_by g t).group ≡ g
  pub held : (k : ℕ) → k < all_notes → has (left_by g t).held k ≡ held_in g k t
  pub given : (c : Call) → (answer_of (left_by g t) c).notes ≡ cond (silences c) (list_in g t) (notes_of [])

abbrev pub HeldKept : Type 0
HeldKept = (g : ℕ) → g ≤ 15 → (t : List Call) → Kept g t

-- for a group above 15 a start is refused, and so is every call after it: none is ever held or given
abbrev pub HeldRefused : Type 0
HeldRefused = (g : ℕ) → 15 < g → (start_of g ≡ refused_of (none_held g)) × ((t : List Call) (c : Call) → answer_of (left_by g t) c ≡ refused_of (none_held g))
