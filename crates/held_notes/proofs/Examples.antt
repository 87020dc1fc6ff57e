-- Worked calls, group 0: on, on with a gap, a Late release with a Late on, a loss with an on.
use Prim.Native.Nat.{ℕ}
use Rattle.std.proofs.Common.{Some, None, Ok}
use mathlib.Core.Path.{◌≡◌, refl}
use mathlib.Core.Bool.{Bool, true, false}
use mathlib.Core.List.{List, [], ◌∷◌}
use Rattle.command.specs.Messages.{type_words, divided, messages_of}
use Rattle.window.specs.declared.window.Class.TheVariants.{New, Late}
use Rattle.notes.specs.Notes.{note_of, is_ours, is_on, is_off, effect_of, on_for, off_for}
use Rattle.held_notes.specs.Calls.{Call, delivered, restarted, held_after, held_in}

abbrev first : List Call
first = delivered (Ok record { seq = 0; class = New 0; gap = None; lost = None }) (0x20903C40 ∷ []) ∷ []

abbrev second : List Call
second = delivered (Ok record { seq = 2; class = New 1; gap = Some record { first = 1; count = 1 }; lost = None }) (0x20903E40 ∷ []) ∷ first

abbrev third : List Call
third = delivered (Ok record { seq = 1; class = Late; gap = None; lost = None }) (0x20803C00 ∷ 0x20904040 ∷ []) ∷ second

abbrev fourth : List Call
fourth =
    delivered (Ok record { seq = 9; class = New 6; gap = Some record { first = 3; count = 6 }; lost = Some record { first = 3; count = 2 } }) (0x20904340 ∷ []) ∷ third

abbrev Among : List Call → Bool → Bool → Bool → Bool → Type 0
Among t c e forty fortythree =
    (held_in 0 0x3C t ≡ c) × (held_in 0 0x3E t ≡ e) × (held_in 0 0x40 t ≡ forty) × (held_in 0 0x43 t ≡ fortythree)

after_first : Among first true false false false
unfolding held_after on_for off_for effect_of is_ours is_on is_off note_of messages_of divided type_words
after_first = (refl, refl, refl, refl)

after_second : Among second true true false false
unfolding held_after on_for off_for effect_of is_ours is_on is_off note_of messages_of divided type_words
after_second = (refl, refl, refl, refl)

after_third : Among third false true false false
unfolding held_after on_for off_for effect_of is_ours is_on is_off note_of messages_of divided type_words
after_third = (refl, refl, refl, refl)

after_fourth : Among fourth false false false true
unfolding held_after on_for off_for effect_of is_ours is_on is_off note_of messages_of divided type_words
after_fourth = (refl, refl, refl, refl)

after_restart : Among (restarted ∷ fourth) false false false false
unfolding held_after on_for off_for effect_of is_ours is_on is_off note_of messages_of divided type_words
after_restart = (refl, refl, refl, refl)

-- the second word of a message of two words is no note; nor are other groups, a note byte of 80 and a velocity of 80
abbrev none_of : List ℕ → Type 0
none_of ws = held_in 0 0x3C (delivered (Ok record { seq = 0; class = New 0; gap = None; lost = None }) ws ∷ []) ≡ false

passed_over : none_of (0x40903C00 ∷ 0x20903C40 ∷ []) × none_of (0x21903C40 ∷ []) × none_of (0x2090803C ∷ []) × none_of (0x20903C80 ∷ [])
unfolding held_after on_for off_for effect_of is_ours is_on is_off note_of messages_of divided type_words
passed_over = (refl, refl, refl, refl)

-- A Late release may silence an on that was played after it: the rule errs toward silence.
silenced_late :
    held_in 0 0x3C
    (delivered (Ok record { seq = 0; class = Late; gap = None; lost = None }) (0x20803C00 ∷ [])
    ∷ delivered (Ok record { seq = 1; class = New 1; gap = Some record { first = 0; count = 1 }; lost = None }) (0x20903C40 ∷ [])
    ∷ [])
    ≡ false
unfolding held_after on_for off_for effect_of is_ours is_on is_off note_of messages_of divided type_words
silenced_late = refl
