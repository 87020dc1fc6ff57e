-- What the theorems are said of: every start and every list of calls, with any arguments, and what the state of 32 words then is.
use Prim.Native.Nat.{ℕ, ◌≤◌, ◌<◌}
use Rattle.std.proofs.Common.{Option, Result}
use Rattle.config.specs.declared.refusal.Refusal.{Refusal}
use Rattle.receiver.specs.declared.receiver.Delivery.{Delivery}
use mathlib.Core.Path.{◌≡◌, refl}
use mathlib.Core.Bool.{true}
use mathlib.Core.Logic.{◌↔◌}
use mathlib.Core.List.{List, [], ◌∷◌}
use Rattle.receiver.specs.declared.receiver.StreamEvent.{StreamEvent}
use Rattle.held_notes.specs.Calls.{Call, delivered, told, restarted, moments_in}
use Rattle.held_notes.specs.State.{all_notes, has}
use Rattle.held_notes.specs.Answers.{answer_of, none_held}
use Rattle.held_notes.specs.Theorems.{HeldBy, left_by}
use Rattle.held_notes.proofs.Calls.{start_state, held_kept}
use Rattle.held_notes.proofs.Exactly.{held_exactly}

-- a start of any group, 16 to 255 too
pub every_start : (g : ℕ) → left_by g [] ≡ none_held g
every_start g = start_state g

-- whatever the stream answered, and whatever the words
pub every_call : (g : ℕ) (t : List Call) (h : Result Delivery Refusal) (ws : List ℕ) (e : Result (Option StreamEvent) Refusal)
    → (left_by g (delivered h ws ∷ t) ≡ (answer_of (left_by g t) (delivered h ws)).state)
    × (left_by g (told e ∷ t) ≡ (answer_of (left_by g t) (told e)).state)
    × (left_by g (restarted ∷ t) ≡ (answer_of (left_by g t) restarted).state)
every_call g t h ws e = (refl, refl, refl)

-- the bit of each note in the state that calls leave, by the moments of those calls
pub every_note : (g : ℕ) → g ≤ 15 → (t : List Call) (k : ℕ) → k < all_notes → (has (left_by g t).held k ≡ true) ↔ HeldBy g k (moments_in t)
every_note g h t k l = rw ((held_kept g h t).held k l) (held_exactly g k t)
