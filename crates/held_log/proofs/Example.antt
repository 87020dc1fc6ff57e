-- A run that meets demand 3's premises. The console sends three payloads, one command in each; the first arrives after the second:
--   payload 0   a release of 3C    position 0   arrives second: Late
--   payload 1   an on for 3C       position 1   arrives first: New with a gap of 1
--   payload 2   an on for 3E       position 2   arrives third: New
-- The chamber holds 3E, and what was accepted leaves it held. It does not hold 3C, though what was accepted leaves that held too: the converse of the theorem is false.
use Prim.Native.Nat.{ℕ, zero, suc, ◌+◌, ◌≤◌, ◌<◌}
use Rattle.std.proofs.Common.{Some, None, Ok}
use mathlib.Core.Path.{◌≡◌, refl, sym, ◌∙◌}
use mathlib.Core.Logic.{inl, inr}
use mathlib.Core.Bool.{true, false}
use mathlib.Core.List.Memᴰ
use mathlib.Core.List.{List, [], ◌∷◌}
use native.Mathlib.Omega.{arith}
use lib.Dec.{eqb}
use lib.ListN.{drop}
use borrow.Author.Tests.{eqb-true}
use Rattle.config.specs.Settings.{check_of}
use Rattle.config.specs.inner.Tests.{split, tests}
use Rattle.packet.specs.Bytes.{bytes_of, words_of, spliced}
use Rattle.packet.specs.Layout.{Words32}
use Rattle.packet.specs.Read.{signed, items_from, items_of}
use Rattle.packet.specs.Write.{opened_of, valid_of as payload_valid, written_of}
use Rattle.command.specs.Messages.{type_words, divided, messages_of, whole_of, words_in}
use Rattle.history.specs.Ring.{slot_of, ring_stored, ring_read}
use Rattle.history.specs.Headers.{header_at, words_from, numbered}
use Rattle.history.specs.State.{state_ok, walk_ok}
use Rattle.history.specs.Push.{pop_one, popped, grown, pushed, longer, appended}
use Rattle.history.specs.Written.{entry_packet}
use Rattle.sender.specs.Answers.{new_answer, send_answer}
use Rattle.writing.specs.Answers.{write_answer}
use Rattle.fronts.specs.Commands.{fitting, front, behind, commands_in, commands_of, longer as long_message, above}
use Rattle.sender.specs.State.{valid_of}
use Rattle.sender.specs.Queueing.{room_of, need_of, joined_to, pushed_all, queued_to, queued_of, words_check, placed_of, sent_of}
use Rattle.writing.specs.Writing.{served_in, served_of, idled_of, written_off, new_of, written_by}
use Rattle.window.specs.declared.window.Class.TheVariants.{New, Late}
use Rattle.idle.specs.Schedule.{idle_next}
use Rattle.rows.specs.Rows.{row_of, packets_from, sizes_of, any_words}
use Rattle.rows.specs.Choice.{repeats_of}
use Rattle.receiver.specs.Receiver.{due_after}
use Rattle.receiver_log.specs.Calls.{data_command, Entry as Heard, data_entry, AllTyped}
use Rattle.receiver_log.specs.Calls as Chamber
use Rattle.receiver_log.specs.Log.{reports, origin, is_ahead, place, start, high, times, unprocessed, Missing}
use Rattle.receiver_log.specs.Spans.{ends_of, class_in, lost_at, lost_in, missing_ends, asked_for}
use Rattle.receiver_log.specs.Answers.{answer_of, said_of}
use Rattle.receiver_log.specs.Promise.{log_of}
use Rattle.receiver_log.proofs.Runs.{run_said}
use Rattle.delivery.specs.Commands.{Command, data_in, wholes_in, data_of}
use Rattle.delivery.specs.Positions.{opens, position, newest_with}
use Rattle.delivery.specs.Console.{Lent, bytes, Call, open_payload, queue_words, write_into, Entry, queued, wrote, stood, step_of, log_from, fresh_console, AllAllowed, accepted, written, positions, position_of, Was, was_wrote, was}
use Rattle.delivery.specs.Sentence.{Line, fresh, hear, Premises, Run, sent_log, heard_log, Holds}
use Rattle.delivery.proofs.Example.{settings, zeros, empty, full, all, delivery}
use Rattle.notes.specs.Notes.{note_of, is_ours, is_on, is_off, effect_of, on_for, off_for}
use Rattle.held_notes.specs.Calls.{held_after, held_in}
use Rattle.held_log.specs.Log.{since}
use Rattle.held_log.specs.Theorems.{leaves_held, whole_in, HeldAccepted}

-- ---- the console

abbrev A : List ℕ
A = 0x20803C00 ∷ []

abbrev B : List ℕ
B = 0x20903C40 ∷ []

abbrev C : List ℕ
C = 0x20903E40 ∷ []

abbrev calls : List Call
calls =
    open_payload 1400 (zeros 12) ∷ queue_words (settings 0) A ∷ write_into 0 (settings 0) 0
    ∷ open_payload 1400 (zeros 12) ∷ queue_words (settings 0) B ∷ write_into 1 (settings 0) 5
    ∷ open_payload 1400 (zeros 12) ∷ queue_words (settings 0) C ∷ write_into 2 (settings 0) 10
    ∷ []

abbrev payload0 : Lent
payload0 = full 12 (0x4D494449 ∷ 0xFF010000 ∷ A)

abbrev payload1 : Lent
payload1 = full 12 (0x4D494449 ∷ 0xFF010001 ∷ B)

abbrev payload2 : Lent
payload2 = full 12 (0x4D494449 ∷ 0xFF010002 ∷ C)

abbrev sent : List Entry
sent =
    wrote 2 (empty 12) payload2 (all 1) ∷ queued (settings 0) C (Ok tt) ∷ stood 2 (empty 12)
    ∷ wrote 1 (empty 12) payload1 (all 1) ∷ queued (settings 0) B (Ok tt) ∷ stood 1 (empty 12)
    ∷ wrote 0 (empty 12) payload0 (all 1) ∷ queued (settings 0) A (Ok tt) ∷ stood 0 (empty 12)
    ∷ []

sent_is : log_from (fresh_console 65 4 (zeros 65)) [] calls ≡ sent
unfolding log_from step_of new_answer opened_of type_words divided messages_of whole_of slot_of ring_stored ring_read header_at words_from numbered state_ok walk_ok pop_one popped grown pushed longer appended entry_packet fitting front behind commands_in commands_of long_message above valid_of room_of need_of joined_to pushed_all queued_to queued_of words_check placed_of sent_of row_of packets_from served_in served_of idle_next idled_of sizes_of repeats_of any_words written_off new_of written_by send_answer write_answer check_of payload_valid written_of bytes_of spliced
sent_is = refl

-- ---- the chamber

abbrev arrivals : List Chamber.Call
arrivals = data_command (settings 0) 6 1 B ∷ data_command (settings 0) 7 0 A ∷ data_command (settings 0) 11 2 C ∷ []

abbrev arrived : List Heard
arrived =
    data_entry (settings 0) 11 2 C (Ok (delivery 2 (New 0) None))
    ∷ data_entry (settings 0) 7 0 A (Ok (delivery 0 Late None))
    ∷ data_entry (settings 0) 6 1 B (Ok (delivery 1 (New 1) (Some record { first = 0; count = 1 })))
    ∷ []

typed : AllTyped arrivals
typed = omega arith

arrived_is : log_of 64 arrivals ≡ arrived
unfolding said_of answer_of check_of class_in is_ahead place lost_in lost_at missing_ends ends_of unprocessed start due_after asked_for
arrived_is = run_said 64 (omega arith) (omega arith) arrivals typed ∙ refl

-- ---- the line

abbrev a : Command
a = record { number = 0; words = A }

abbrev b : Command
b = record { number = 1; words = B }

abbrev c : Command
c = record { number = 2; words = C }

reads : (data_of (bytes payload0) ≡ a ∷ []) × (data_of (bytes payload1) ≡ b ∷ []) × (data_of (bytes payload2) ≡ c ∷ [])
unfolding data_of data_in wholes_in items_of items_from signed words_of bytes_of
reads = (refl, refl, refl)

-- behind n newer entries
was_behind : (n : ℕ) (t : List Entry) (k : ℕ) (v : Lent) → Was (drop n t) k v → Was t k v
was_behind zero t k v h = h
was_behind (suc n) [] k v h = h
was_behind (suc n) (x ∷ t) k v h = was x (was_behind n t k v h)

was0 : Was sent 0 payload0
was0 = was_behind 6 sent 0 payload0 (was_wrote _ _ _ _ _)

was1 : Was sent 1 payload1
was1 = was_behind 3 sent 1 payload1 (was_wrote _ _ _ _ _)

was2 : Was sent 2 payload2
was2 = was_wrote _ _ _ _ _

places : (0 ≡ position_of (written sent) 0 0) × (1 ≡ position_of (written sent) 1 0) × (2 ≡ position_of (written sent) 2 0)
unfolding data_of data_in wholes_in items_of items_from signed words_of bytes_of opens position newest_with
places = (refl, refl, refl)

line : Line sent arrived (2 ∷ 0 ∷ 1 ∷ [])
line =
    hear (hear (hear fresh
    1 payload1 was1 [] [] b reads.1 1 places.1 (omega arith) (omega arith) (settings 0) 6 _)
    0 payload0 was0 [] [] a reads.0 0 places.0 (omega arith) (omega arith) (settings 0) 7 _)
    2 payload2 was2 [] [] c reads.2 2 places.2 (omega arith) (omega arith) (settings 0) 11 _

-- ---- the premises

positions_are : positions sent ≡ A ∷ B ∷ C ∷ []
unfolding data_of data_in wholes_in items_of items_from signed words_of bytes_of opens
positions_are = refl

highest_is : high (reports arrived) ≡ origin + 2
unfolding place is_ahead
highest_is = refl

handed_once : (times (reports arrived) origin ≡ 1) × (times (reports arrived) (origin + 1) ≡ 1)
unfolding place is_ahead
handed_once = (refl, refl)

last_place : (x : ℕ) → origin ≤ x → x < origin + 2 → eqb x origin ≡ false → x ≡ origin + 1
last_place x from to f = omega (arith, tests)

none_missing_lem : (x : ℕ) → Missing 64 (reports arrived) x → ⊥
none_missing_lem x m = elim (split (eqb x origin)) [
  | inl k ↦ not_at origin (eqb-true x origin k) handed_once.0
  | inr k ↦ not_at (origin + 1) (last_place x m.from_0 (rw highest_is at m.below) k) handed_once.1
]
  where
    not_at : (y : ℕ) → x ≡ y → times (reports arrived) y ≡ 1 → ⊥
    not_at y same one = let z : times (reports arrived) y ≡ 0 = rw same at m.not_handed_on in let w : ◌≡◌ {A = ℕ} 0 1 = sym z ∙ one in omega arith

premises : Premises 64 sent arrived (2 ∷ 0 ∷ 1 ∷ [])
unfolding words_in
premises = record {
  line = line;
  all_written = rw positions_are;
  newest_heard = rw positions_are (λ some. Memᴰ.head refl);
  no_loss = (refl, (refl, (refl, tt)));
  nothing_missing = none_missing_lem;
}

-- ---- the run

allowed : AllAllowed calls
unfolding Words32
allowed = omega arith

started : (new_answer 65 4 (zeros 65)).0.answer ≡ Ok tt
unfolding new_answer
started = refl

pub example : Run
example = record {
  words = 65;
  places = 4;
  ring₀ = zeros 65;
  started = started;
  calls = calls;
  allowed = allowed;
  window = 64;
  least = omega arith;
  most = omega arith;
  arrivals = arrivals;
  typed = typed;
}

pub example_holds : Holds example
unfolding example
example_holds = (2 ∷ 0 ∷ 1 ∷ [], rw (sent_is, arrived_is) premises)

-- it holds 3E, and not 3C
pub example_held : (held_in 0 0x3E (since (heard_log example) []) ≡ true) × (held_in 0 0x3C (since (heard_log example) []) ≡ false)
unfolding example held_after on_for off_for effect_of is_ours is_on is_off note_of messages_of divided type_words
example_held = rw arrived_is (refl, refl)

-- so the theorem is said of something
pub example_said : HeldAccepted → leaves_held 0 0x3E false (whole_in (accepted (sent_log example))) ≡ true
example_said theorem = theorem 0 0x3E example example_holds [] example_held.0

-- and its converse is false: 3C is not held, and what was accepted leaves it held
pub silent_too_soon : leaves_held 0 0x3C false (whole_in (accepted (sent_log example))) ≡ true
unfolding example held_after on_for off_for effect_of is_ours is_on is_off note_of messages_of divided type_words
silent_too_soon = rw sent_is refl
