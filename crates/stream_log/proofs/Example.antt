-- Two streams that meet all premises of demand 3's first sentence.
--   console   payload 0   A, number 0                lost
--             payload 1   B, number 1                arrives: New with a gap of 1
--   chamber   its payload 0   request for 0          written when it is due, and told to the console
--   console   payload 2   A, number 0                retransmitted, arrives: Late
use Prim.Native.Nat.{ℕ, ◌+◌}
use Rattle.std.proofs.Common.{Option, Some, None, Result, Ok, Err}
use Rattle.config.specs.declared.refusal.Refusal.{Refusal}
use Rattle.window.specs.declared.window.SeqRange.{SeqRange}
use Rattle.writing.specs.declared.writing.Written.{Written}
use mathlib.Core.Path.{◌≡◌, refl, ap, ◌∙◌}
use mathlib.Core.Bool.{false}
use mathlib.Core.List.Memᴰ
use mathlib.Core.List.{List, [], ◌∷◌, ◌++◌}
use native.Mathlib.Omega.{arith}
use lib.ListN.{replicate}
use Rattle.config.specs.Settings.{check_of}
use Rattle.config.specs.declared.settings.StreamConfig.{StreamConfig}
use Rattle.packet.specs.Bytes.{bytes_of, words_of, spliced}
use Rattle.packet.specs.Layout.{Words32}
use Rattle.packet.specs.Read.{signed, items_from, items_of}
use Rattle.packet.specs.Write.{opened_of, valid_of as payload_valid, written_of}
use Rattle.packet.specs.declared.writer.PayloadWriter.{PayloadWriter}
use Rattle.command.specs.Messages.{type_words, divided, messages_of, whole_of, words_in}
use Rattle.history.specs.Ring.{slot_of, ring_stored, ring_read}
use Rattle.history.specs.Headers.{header_at, words_from, numbered}
use Rattle.history.specs.State.{state_ok, walk_ok}
use Rattle.history.specs.Push.{pop_one, popped, grown, pushed, longer, appended}
use Rattle.history.specs.Queue.{request, requests, asks, push_answer}
use Rattle.history.specs.Written.{entry_packet}
use Rattle.window.specs.Set.{val, set_of}
use Rattle.window.specs.Window as Window
use Rattle.window.specs.declared.window.Class.{Class}
use Rattle.window.specs.declared.window.Class.TheVariants.{New, Late}
use Rattle.idle.specs.Schedule.{idle_next}
use Rattle.rows.specs.Rows.{row_of, packets_from, sizes_of, any_words}
use Rattle.rows.specs.Choice.{repeats_of}
use Rattle.receiver.specs.Receiver.{due_after, taken_of}
use Rattle.receiver.specs.Receiver as Receiver
use Rattle.receiver.specs.Answers as receiver
use Rattle.receiver.specs.declared.receiver.Delivery.{Delivery}
use Rattle.receiver.specs.declared.receiver.Request.{Request}
use Rattle.receiver.specs.declared.receiver.Request.TheVariants.{Nothing as NotDue, Written as Taken, More as NoSpace}
use Rattle.receiver_log.specs.Calls.{data_command, poll, take_request, Entry as Heard, data_entry, poll_entry, take_entry, AllTyped}
use Rattle.receiver_log.specs.Calls as Chamber
use Rattle.receiver_log.specs.Log.{reports, origin, is_ahead, place, start, high, times, unprocessed, Missing}
use Rattle.receiver_log.specs.Spans.{ends_of, class_in, lost_at, lost_in, missing_ends, asked_for}
use Rattle.receiver_log.specs.Answers.{answer_of, said_of}
use Rattle.receiver_log.specs.Promise.{log_of}
use Rattle.receiver_log.proofs.Runs.{run_said}
use Rattle.sender.specs.Answers as sender
use Rattle.writing.specs.Answers as writing
use Rattle.fronts.specs.Commands.{fitting, front, behind, commands_in, commands_of, longer as long_message, above}
use Rattle.sender.specs.State.{valid_of}
use Rattle.sender.specs.Queueing.{room_of, need_of, joined_to, pushed_all, queued_to, queued_of, words_check, placed_of, sent_of}
use Rattle.sender.specs.Requests.{requested_of}
use Rattle.writing.specs.Writing.{served_in, served_of, idled_of, written_off, new_of, written_by}
use Rattle.sender_log.specs.Calls as Sender
use Rattle.delivery.specs.Commands.{Command, data_in, wholes_in, data_of}
use Rattle.delivery.specs.Positions.{opens, position, newest_with}
use Rattle.delivery.specs.Console.{Lent, bytes, Entry, queued, wrote, stood, noted, log_from, fresh_console, accepted, written, positions, position_of, was_wrote, was}
use Rattle.delivery.specs.Console as Delivery
use Rattle.delivery.specs.Chamber.{handed_on}
use Rattle.delivery.specs.Sentence.{Line, fresh, hear, pass, Premises}
use Rattle.delivery.proofs.Example.{settings, A}
use Rattle.stream.specs.State as Stream
use Rattle.stream.specs.Ends.{send_answer, request_answer}
use Rattle.stream.specs.Answers.{new_answer}
use Rattle.stream.specs.Writing.{sent_after, data_written, write_answer}
use Rattle.stream_log.specs.Calls.{send_ump, on_retransmit_request, on_ump_data}
use Rattle.stream_log.specs.Calls as Calls
use Rattle.stream_log.specs.Ends.{Ends, unless_cut, ends_after, ends_from}
use Rattle.stream_log.specs.Ends as Ends
use Rattle.stream_log.specs.Promise.{Started}
use Rattle.stream_log.specs.Console.{Call, open_payload, write_into, on_stream, step_of, run_from, EachAllowed, End, run_of}
use Rattle.stream_log.specs.Sentence.{sent_by, heard_by, reports_by, Pair, Holds}
use Rattle.stream_log.proofs.Sentence.{stream_sentence}

abbrev B : List ℕ
B = 0x20803C00 ∷ []

abbrev zeros : ℕ → List ℕ
zeros n = replicate n 0

abbrev plain : StreamConfig
plain = settings 0

-- ---- the console

abbrev played : List Call
played =
    open_payload 1400 (zeros 12) ∷ on_stream (send_ump plain A) ∷ write_into 0 plain 0
    ∷ open_payload 1400 (zeros 12) ∷ on_stream (send_ump plain B) ∷ write_into 1 plain 5
    ∷ on_stream (on_retransmit_request plain record { seq = 0; count = 1 }) ∷ open_payload 1400 (zeros 12) ∷ write_into 2 plain 20
    ∷ []

played_allowed : EachAllowed played
unfolding Words32
played_allowed = omega arith

started : Started plain 4 65 4 (zeros 65)
unfolding new_answer check_of
started = refl

abbrev console : End
console = record { settings = plain; window = 4; words = 65; places = 4; ring₀ = zeros 65; started = started; calls = played; allowed = played_allowed }

-- the calls of its sender with the payloads
abbrev counted : List Delivery.Call
counted =
    Delivery.open_payload 1400 (zeros 12) ∷ Delivery.queue_words plain A ∷ Delivery.write_into 0 plain 0
    ∷ Delivery.open_payload 1400 (zeros 12) ∷ Delivery.queue_words plain B ∷ Delivery.write_into 1 plain 5
    ∷ Delivery.retransmit_request plain record { seq = 0; count = 1 } ∷ Delivery.open_payload 1400 (zeros 12) ∷ Delivery.write_into 2 plain 20
    ∷ []

counted_is : (run_of console).sent ≡ counted
unfolding run_of run_from step_of Calls.step_of Delivery.step_of new_answer send_answer request_answer write_answer Stream.valid_of sent_after data_written Receiver.valid_of Window.valid_of val set_of taken_of receiver.take_answer sender.send_answer sender.request_answer requested_of request requests asks push_answer opened_of type_words divided messages_of whole_of slot_of ring_stored ring_read header_at words_from numbered state_ok walk_ok pop_one popped grown pushed longer appended entry_packet fitting front behind commands_in commands_of long_message above valid_of room_of need_of joined_to pushed_all queued_to queued_of words_check placed_of sent_of row_of packets_from served_in served_of idle_next idled_of sizes_of repeats_of any_words written_off new_of written_by check_of payload_valid written_of bytes_of spliced
counted_is = refl

abbrev empty : Lent
empty = record { payload = record { len = 0; max = 1400 }; buffer = zeros 12 }

abbrev full : List ℕ → Lent
full words = record { payload = record { len = 12; max = 1400 }; buffer = bytes_of words }

abbrev with_a : Lent
with_a = full (0x4D494449 ∷ 0xFF010000 ∷ A)

abbrev with_b : Lent
with_b = full (0x4D494449 ∷ 0xFF010001 ∷ B)

abbrev one : Result Written Refusal
one = Ok record { commands = 1; more = false }

abbrev sent : List Entry
sent =
    wrote 2 empty with_a one ∷ stood 2 empty ∷ noted
    ∷ wrote 1 empty with_b one ∷ queued plain B (Ok tt) ∷ stood 1 empty
    ∷ wrote 0 empty with_a one ∷ queued plain A (Ok tt) ∷ stood 0 empty
    ∷ []

counted_log : log_from (fresh_console 65 4 (zeros 65)) [] counted ≡ sent
unfolding log_from Delivery.step_of sender.new_answer sender.request_answer requested_of request requests asks push_answer opened_of type_words divided messages_of whole_of slot_of ring_stored ring_read header_at words_from numbered state_ok walk_ok pop_one popped grown pushed longer appended entry_packet fitting front behind commands_in commands_of long_message above valid_of room_of need_of joined_to pushed_all queued_to queued_of words_check placed_of sent_of row_of packets_from served_in served_of idle_next idled_of sizes_of repeats_of any_words written_off new_of written_by sender.send_answer writing.write_answer check_of payload_valid written_of bytes_of spliced
counted_log = refl

sent_is : sent_by console ≡ sent
sent_is = ap (log_from (fresh_console 65 4 (zeros 65)) []) counted_is ∙ counted_log

-- ---- the chamber

abbrev heard : List Call
heard =
    on_stream (on_ump_data plain 6 1 B) ∷ on_stream (Calls.poll plain 16) ∷ open_payload 1400 (zeros 12) ∷ write_into 0 plain 16
    ∷ on_stream (on_ump_data plain 21 0 A)
    ∷ []

heard_allowed : EachAllowed heard
heard_allowed = omega arith

abbrev chamber : End
chamber = record { settings = plain; window = 4; words = 65; places = 4; ring₀ = zeros 65; started = started; calls = heard; allowed = heard_allowed }

called_is : (run_of chamber).called
    ≡ on_ump_data plain 6 1 B ∷ Calls.poll plain 16 ∷ Calls.write_data plain 16 (record { len = 0; max = 1400 }) (zeros 12) ∷ on_ump_data plain 21 0 A ∷ []
unfolding run_of run_from step_of Delivery.step_of opened_of
called_is = refl

abbrev arrivals : List Chamber.Call
arrivals = data_command plain 6 1 B ∷ poll plain 16 ∷ take_request plain (record { len = 0; max = 1400 }) (zeros 12) ∷ data_command plain 21 0 A ∷ []

-- whatever the take comes to, it is the receiver's call
same_received : (a : Result Request Refusal) (e : Ends) (c : Sender.Call) → (unless_cut a e c).received ≡ e.received
same_received (Ok NotDue) e c = refl
same_received (Ok Taken) e c = refl
same_received (Ok NoSpace) e c = refl
same_received (Err why) e c = refl

write_received : (W : ℕ) (e : Ends) (cfg : StreamConfig) (time : ℕ) (p : PayloadWriter) (b : List ℕ) → (ends_after W e (Calls.write_data cfg time p b)).received ≡ e.received ++ (take_request cfg p b ∷ [])
unfolding ends_after
write_received W e cfg time p b =
    let t = Ends.taken_after W e.received cfg p b in
    same_received t.0.answer (Ends.receiving e (take_request cfg p b)) (Sender.write cfg time t.0.payload t.1)

arrivals_are : (Ends.ends_of 4 (run_of chamber).called).received ≡ arrivals
unfolding ends_from ends_after
arrivals_are =
    ap (λ (calls : List Calls.Call). (Ends.ends_of 4 calls).received) called_is
    ∙ ap (λ (xs : List Chamber.Call). xs ++ (data_command plain 21 0 A ∷ []))
    (write_received 4 record { received = data_command plain 6 1 B ∷ poll plain 16 ∷ []; sent = [] } plain 16 (record { len = 0; max = 1400 }) (zeros 12))

abbrev delivery : ℕ → Class → Option SeqRange → Delivery
delivery seq class gap = record { seq = seq; class = class; gap = gap; lost = None }

abbrev arrived : List Heard
arrived =
    data_entry plain 21 0 A (Ok (delivery 0 Late None))
    ∷ take_entry plain (record { len = 0; max = 1400 }) (zeros 12) (Ok Taken) (record { len = 12; max = 1400 }) (bytes_of (0x4D494449 ∷ 0x80010000 ∷ 0x00010000 ∷ []))
    ∷ poll_entry plain 16 (Ok None)
    ∷ data_entry plain 6 1 B (Ok (delivery 1 (New 1) (Some record { first = 0; count = 1 })))
    ∷ []

typed : AllTyped arrivals
typed = omega arith

arrivals_log : log_of 4 arrivals ≡ arrived
unfolding said_of answer_of check_of class_in is_ahead place lost_in lost_at missing_ends ends_of unprocessed start due_after asked_for payload_valid written_of bytes_of spliced
arrivals_log = run_said 4 (omega arith) (omega arith) arrivals typed ∙ refl

arrived_is : heard_by chamber ≡ arrived
arrived_is = ap (log_of 4) arrivals_are ∙ arrivals_log

-- ---- the line

abbrev a : Command
a = record { number = 0; words = A }

abbrev b : Command
b = record { number = 1; words = B }

reads : (data_of (bytes with_a) ≡ a ∷ []) × (data_of (bytes with_b) ≡ b ∷ [])
unfolding data_of data_in wholes_in items_of items_from signed words_of bytes_of
reads = (refl, refl)

-- the command of payload 1 opened position 1; that of payload 2 repeats position 0
places : (1 ≡ position_of (written sent) 1 0) × (0 ≡ position_of (written sent) 2 0)
unfolding data_of data_in wholes_in items_of items_from signed words_of bytes_of opens position newest_with
places = (refl, refl)

line : Line sent arrived (0 ∷ 1 ∷ [])
line =
    hear (pass (pass (hear fresh
    1 with_b (was _ (was _ (was _ (was_wrote _ _ _ _ _)))) [] [] b reads.1 1 places.0 (omega arith) (omega arith) plain 6 _)
    _ refl) _ refl)
    2 with_a (was_wrote _ _ _ _ _) [] [] a reads.0 0 places.1 (omega arith) (omega arith) plain 21 _

-- ---- the premises

positions_are : positions sent ≡ A ∷ B ∷ []
unfolding data_of data_in wholes_in items_of items_from signed words_of bytes_of opens
positions_are = refl

handed : (high (reports arrived) ≡ origin + 1) × (times (reports arrived) origin ≡ 1)
unfolding place is_ahead
handed = (refl, refl)

none_missing_lem : (x : ℕ) → Missing 4 (reports arrived) x → ⊥
none_missing_lem x m =
    let e : x ≡ origin = omega (arith, handed.0, m.from_0, m.below) in
    let z : times (reports arrived) origin ≡ 0 = rw e at m.not_handed_on in
    omega (arith, handed.1)

premises : Premises 4 sent arrived (0 ∷ 1 ∷ [])
unfolding words_in
premises = record {
  line = line;
  all_written = rw positions_are;
  newest_heard = rw positions_are (λ some. Memᴰ.tail (Memᴰ.head refl));
  no_loss = (refl, (refl, (refl, (refl, tt))));
  nothing_missing = none_missing_lem;
}

pub example : Pair
example = record { console = console; chamber = chamber }

-- so the sentence is said of something
pub example_holds : Holds example
unfolding example
example_holds = (0 ∷ 1 ∷ [], rw (sent_is, arrived_is) premises)

pub example_said : handed_on (reports_by example.chamber) ≡ A ++ B
unfolding example
example_said = stream_sentence.joined example example_holds ∙ ap accepted sent_is
