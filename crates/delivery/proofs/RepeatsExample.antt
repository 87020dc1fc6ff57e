-- A run without a return cable, R 2. The console sends six payloads, each with one new command of one word and the last two before it. Payloads 0 and 1 are lost, 2 arrives twice,
-- 3 and 4 are lost, and 5, the last, arrives. The chamber's window is the smallest, and it is polled between.
use Prim.Native.Nat.{ℕ, zero, suc, ◌+◌, ◌*◌}
use Rattle.std.proofs.Common.{None, Ok}
use mathlib.Core.Path.{◌≡◌, refl, ap, ◌∙◌}
use mathlib.Core.List.{List, [], ◌∷◌, ◌++◌}
use native.Mathlib.Omega.{arith}
use lib.ListN.{get_or}
use Rattle.config.specs.Settings.{check_of}
use Rattle.packet.specs.Bytes.{bytes_of, words_of, spliced}
use Rattle.packet.specs.Layout.{Words32}
use Rattle.packet.specs.Read.{signed, items_from, items_of}
use Rattle.packet.specs.Write.{opened_of, valid_of as payload_valid, written_of}
use Rattle.command.specs.Messages.{type_words, divided, messages_of, whole_of}
use Rattle.history.specs.Ring.{slot_of, ring_stored, ring_read}
use Rattle.history.specs.Headers.{header_at, words_from, numbered}
use Rattle.history.specs.State.{state_ok, walk_ok}
use Rattle.history.specs.Push.{pop_one, popped, grown, pushed, longer, appended}
use Rattle.history.specs.Queue.{request, requests, asks, push_answer}
use Rattle.history.specs.Written.{entry_packet}
use Rattle.sender.specs.Answers.{new_answer, send_answer, request_answer}
use Rattle.writing.specs.Answers.{write_answer}
use Rattle.fronts.specs.Commands.{fitting, front, behind, commands_in, commands_of, longer as long_message, above}
use Rattle.sender.specs.State.{valid_of}
use Rattle.sender.specs.Queueing.{room_of, need_of, joined_to, pushed_all, queued_to, queued_of, words_check, placed_of, sent_of}
use Rattle.sender.specs.Requests.{requested_of}
use Rattle.writing.specs.Writing.{served_in, served_of, idled_of, written_off, new_of, written_by}
use Rattle.window.specs.declared.window.Class.{Class}
use Rattle.window.specs.declared.window.Class.TheVariants.{New, Duplicate}
use Rattle.idle.specs.Schedule.{idle_next}
use Rattle.rows.specs.Rows.{row_of, packets_from, sizes_of, any_words}
use Rattle.rows.specs.Choice.{repeats_of}
use Rattle.receiver.specs.Receiver.{due_after}
use Rattle.receiver_log.specs.Calls.{data_command, poll, Entry as Heard, data_entry, poll_entry, AllTyped}
use Rattle.receiver_log.specs.Calls as Chamber
use Rattle.receiver_log.specs.Log.{heard, reports, is_ahead, place, start, unprocessed}
use Rattle.receiver_log.specs.Spans.{ends_of, class_in, lost_at, lost_in, missing_ends, asked_for}
use Rattle.receiver_log.specs.Answers.{answer_of, said_of}
use Rattle.receiver_log.specs.Promise.{log_of}
use Rattle.receiver_log.proofs.Runs.{run_said}
use Rattle.delivery.specs.Commands.{data_in, wholes_in, data_of}
use Rattle.delivery.specs.Positions.{opens}
use Rattle.delivery.specs.Console.{Lent, Call, Entry, queued, wrote, stood, step_of, log_from, fresh_console, AllAllowed, positions, Was, was_wrote, was}
use Rattle.delivery.specs.Sentence.{Run, sent_log, heard_log, heard_in}
use Rattle.delivery.specs.Repeats.{one, Brings, SentAs, Arrives, none, next, again, heard_commands, RepeatsOnly, AllHandedOn}
use Rattle.delivery.specs.Paced.{Round, rounds_from, Fits, AllFit, Keeps}
use Rattle.delivery.proofs.Example.{settings, zeros, empty, partly, full, all, delivery}
use Rattle.delivery.proofs.Repeats.{repeats_alone}
use Rattle.delivery.proofs.Paced.{paced_sender}

-- ---- the console

-- the words of command i
abbrev note : ℕ → List ℕ
note i = get_or (0x20903C40 ∷ 0x20803C00 ∷ 0x20903E40 ∷ 0x20803E00 ∷ 0x20904040 ∷ 0x20804000 ∷ []) i 0 ∷ []

-- payload i with command i, 10 ms after the last
abbrev round : ℕ → Round
round i = record { limit = 1400; buffer = zeros 28; settings = settings 2; words = note i; time = i * 10 }

abbrev rounds : List Round
rounds = round 0 ∷ round 1 ∷ round 2 ∷ round 3 ∷ round 4 ∷ round 5 ∷ []

abbrev calls : List Call
calls = rounds_from 0 rounds

-- command i in a payload, and payload i
abbrev command : ℕ → List ℕ
command i = (0xFF010000 + i) ∷ note i

abbrev payload : ℕ → Lent
payload zero = partly 12 (0x4D494449 ∷ command 0) 16
payload (suc zero) = partly 20 (0x4D494449 ∷ command 0 ++ command 1) 8
payload (suc (suc i)) = full 28 (0x4D494449 ∷ command i ++ (command (1 + i) ++ command (2 + i)))

abbrev sent : List Entry
sent =
    wrote 5 (empty 28) (payload 5) (all 3) ∷ queued (settings 2) (note 5) (Ok tt) ∷ stood 5 (empty 28)
    ∷ wrote 4 (empty 28) (payload 4) (all 3) ∷ queued (settings 2) (note 4) (Ok tt) ∷ stood 4 (empty 28)
    ∷ wrote 3 (empty 28) (payload 3) (all 3) ∷ queued (settings 2) (note 3) (Ok tt) ∷ stood 3 (empty 28)
    ∷ wrote 2 (empty 28) (payload 2) (all 3) ∷ queued (settings 2) (note 2) (Ok tt) ∷ stood 2 (empty 28)
    ∷ wrote 1 (empty 28) (payload 1) (all 2) ∷ queued (settings 2) (note 1) (Ok tt) ∷ stood 1 (empty 28)
    ∷ wrote 0 (empty 28) (payload 0) (all 1) ∷ queued (settings 2) (note 0) (Ok tt) ∷ stood 0 (empty 28)
    ∷ []

sent_is : log_from (fresh_console 65 1 (zeros 65)) [] calls ≡ sent
unfolding log_from step_of new_answer request_answer requested_of request requests asks push_answer opened_of type_words divided messages_of whole_of slot_of ring_stored ring_read header_at words_from numbered state_ok walk_ok pop_one popped grown pushed longer appended entry_packet fitting front behind commands_in commands_of long_message above valid_of room_of need_of joined_to pushed_all queued_to queued_of words_check placed_of sent_of row_of packets_from served_in served_of idle_next idled_of sizes_of repeats_of any_words written_off new_of written_by send_answer write_answer check_of payload_valid written_of bytes_of spliced
sent_is = refl

-- ---- the chamber

abbrev hears : ℕ → ℕ → Chamber.Call
hears time i = data_command (settings 2) time i (note i)

abbrev arrivals : List Chamber.Call
arrivals =
    hears 20 0 ∷ hears 20 1 ∷ poll (settings 2) 21 ∷ hears 22 2
    ∷ hears 23 0 ∷ hears 23 1 ∷ hears 23 2
    ∷ hears 50 3 ∷ hears 50 4 ∷ hears 50 5
    ∷ []

abbrev answer : ℕ → ℕ → Class → Heard
answer time i class = data_entry (settings 2) time i (note i) (Ok (delivery i class None))

abbrev arrived : List Heard
arrived =
    answer 50 5 (New 0) ∷ answer 50 4 (New 0) ∷ answer 50 3 (New 0)
    ∷ answer 23 2 Duplicate ∷ answer 23 1 Duplicate ∷ answer 23 0 Duplicate
    ∷ answer 22 2 (New 0) ∷ poll_entry (settings 2) 21 (Ok None) ∷ answer 20 1 (New 0) ∷ answer 20 0 (New 0)
    ∷ []

typed : AllTyped arrivals
typed = omega arith

arrived_is : log_of 1 arrivals ≡ arrived
unfolding said_of answer_of check_of class_in is_ahead place lost_in lost_at missing_ends ends_of unprocessed start due_after asked_for payload_valid written_of bytes_of spliced
arrived_is = run_said 1 (omega arith) (omega arith) arrivals typed ∙ refl

-- ---- the premises

was2 : Was sent 2 (payload 2)
was2 = was _ (was _ (was _ (was _ (was _ (was _ (was _ (was _ (was _ (was_wrote _ _ _ _ _)))))))))

was5 : Was sent 5 (payload 5)
was5 = was_wrote _ _ _ _ _

sent2 : SentAs sent 2 (payload 2)
unfolding data_of data_in wholes_in items_of items_from signed words_of bytes_of
sent2 = record { is_written = omega arith; was_so = was2; since = omega arith }

sent5 : SentAs sent 5 (payload 5)
unfolding data_of data_in wholes_in items_of items_from signed words_of bytes_of
sent5 = record { is_written = omega arith; was_so = was5; since = omega arith }

brings : Brings 2 sent
unfolding data_of data_in wholes_in items_of items_from signed words_of bytes_of opens
brings = (one refl (note 5) refl, (one refl (note 4) refl, (one refl (note 3) refl, (one refl (note 2) refl, (one refl (note 1) refl, (one refl (note 0) refl, tt))))))

arrives : Arrives 2 sent 6 (heard_commands arrived)
unfolding data_of data_in wholes_in items_of items_from signed words_of bytes_of
arrives = next (again (next none 2 (omega arith) (payload 2) sent2) (payload 2) sent2) 2 (omega arith) (payload 5) sent5

premises : RepeatsOnly 2 sent arrived
unfolding data_of data_in wholes_in items_of items_from signed words_of bytes_of
premises = record { brings = brings; gone = 6; arrives = arrives; last = refl }

allowed : AllAllowed calls
unfolding Words32
allowed = omega arith

started : (new_answer 65 1 (zeros 65)).0.answer ≡ Ok tt
unfolding new_answer
started = refl

example : Run
example = record {
  words = 65;
  places = 1;
  ring₀ = zeros 65;
  started = started;
  calls = calls;
  allowed = allowed;
  window = 1;
  least = omega arith;
  most = omega arith;
  arrivals = arrivals;
  typed = typed;
}

-- ---- so the sentence is said of something

example_holds : RepeatsOnly 2 (sent_log example) (heard_log example)
unfolding example
example_holds = rw (sent_is, arrived_is) premises

positions_are : positions sent ≡ note 0 ∷ note 1 ∷ note 2 ∷ note 3 ∷ note 4 ∷ note 5 ∷ []
unfolding data_of data_in wholes_in items_of items_from signed words_of bytes_of opens
positions_are = refl

example_said : AllHandedOn (note 0 ∷ note 1 ∷ note 2 ∷ note 3 ∷ note 4 ∷ note 5 ∷ []) (heard_in example)
unfolding example
example_said = rw (ap positions sent_is ∙ positions_are) at (repeats_alone example 2 example_holds)

-- ---- and the console is one of those that bring what the sentence asks: 28 bytes and 6 words hold three commands of one word

round_fits : (i : ℕ) → Fits 2 1 (round i)
unfolding check_of
round_fits i = record { passes = refl; repeats = refl; size = omega arith; few = omega arith; limit = omega arith; most = omega arith; lent = omega arith }

all_fit : AllFit 2 1 rounds
all_fit = (round_fits 0, (round_fits 1, (round_fits 2, (round_fits 3, (round_fits 4, (round_fits 5, tt))))))

example_keeps : Keeps 2 1 example
unfolding example
example_keeps = record { history = omega arith; paced = paced_sender.rounds 2 1 65 1 (zeros 65) rounds all_fit }

-- ---- why no more than R: were payload 2 lost too, 3 would be the first to arrive, and its oldest command has a gap

one_more_lost : reports (log_of 1 (hears 30 1 ∷ [])) ≡ heard 1 (note 1) (New 1) None ∷ []
unfolding said_of answer_of check_of class_in is_ahead place lost_in lost_at ends_of unprocessed start
one_more_lost = ap reports (run_said 1 (omega arith) (omega arith) (hears 30 1 ∷ []) (omega arith)) ∙ refl
