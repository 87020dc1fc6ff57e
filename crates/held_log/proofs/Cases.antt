-- By computation.
use mathlib.Core.Path.{refl}
use Rattle.command.specs.Messages.{type_words, divided, messages_of}
use Rattle.notes.specs.Notes.{note_of, is_ours, is_on, is_off, effect_of, on_for, off_for}
use Rattle.held_notes.specs.State.{has, notes_below}
use Rattle.held_notes.specs.Answers.{list_of}
use Rattle.held_notes.specs.Calls.{held_after}
use Rattle.held_log.specs.Cases.{HeldCases}

pub held_cases : HeldCases
unfolding type_words divided messages_of note_of is_ours is_on is_off effect_of on_for off_for has notes_below list_of held_after
held_cases = record { count = refl; first = refl; rest = refl; late = refl; duplicate = refl }
