-- A run that meets all premises. The console sends four payloads over a history of 65 words, the last of them twice:
--   payload 0   A                                  R 0   lost
--   payload 1   B                                  R 0   arrives twice: New with a gap of 1, then a Duplicate; the chamber asks for number 0
--   payload 2   A                                        retransmitted, arrives: Late
--   payload 3   a request, A and B repeated, D     R 2   arrives, D read before A
--   payload 3   the same, then E                   R 0   its buffer lent again and longer, arrives a second time: E, then D, a Duplicate
-- Refused between them: opening with limit 7 (4), queueing half a message (5), a write whose settings have growth 0 (8), a write into a payload of 6 bytes (13), and, at
-- the chamber, a data command of no sender (8).
use Prim.Native.Nat.{ℕ, zero, suc, ◌+◌, ◌≤◌, ◌<◌}
use Rattle.std.proofs.Common.{Option, Some, None, Result, Ok, Err}
use Rattle.config.specs.declared.refusal.Refusal.{Refusal}
use Rattle.window.specs.declared.window.SeqRange.{SeqRange}
use Rattle.writing.specs.declared.writing.Written.{Written}
use mathlib.Core.Path.{◌≡◌, refl, sym, ◌∙◌}
use mathlib.Core.Logic.{inl, inr}
use mathlib.Core.Bool.{true, false}
use mathlib.Core.List.Memᴰ
use mathlib.Core.List.{List, [], ◌∷◌, ◌++◌}
use native.Mathlib.Omega.{arith}
use lib.Dec.{eqb}
use lib.ListN.{drop, replicate}
use borrow.Author.Tests.{eqb-true}
use Rattle.config.specs.Settings.{check_of}
use Rattle.config.specs.declared.refusal.Refusal.TheVariants.{InvalidUmpData, IdleGrowth}
use Rattle.config.specs.declared.settings.StreamConfig.{StreamConfig}
use Rattle.config.specs.inner.Tests.{split, tests}
use Rattle.packet.specs.Bytes.{bytes_of, words_of, spliced}
use Rattle.packet.specs.Layout.{Words32}
use Rattle.packet.specs.Read.{signed, items_from, items_of}
use Rattle.packet.specs.Write.{opened_of, valid_of as payload_valid, written_of}
use Rattle.packet.specs.declared.writer.PayloadWriter.{PayloadWriter}
use Rattle.command.specs.Calls as Writes
use Rattle.command.specs.Messages.{type_words, divided, messages_of, whole_of, words_in}
use Rattle.command.specs.declared.retransmit.RetransmitRequest.{RetransmitRequest}
use Rattle.history.specs.Ring.{slot_of, ring_stored, ring_read}
use Rattle.history.specs.Headers.{header_at, words_from, numbered}
use Rattle.history.specs.State.{state_ok, walk_ok}
use Rattle.history.specs.Push.{pop_one, popped, grown, pushed, longer, appended}
use Rattle.history.specs.Queue.{request, requests, asks, push_answer}
use Rattle.history.specs.Written.{entry_packet}
use Rattle.sender.specs.Answers.{new_answer, send_answer, request_answer}
use Rattle.writing.specs.Answers.{write_answer}
use Rattle.fronts.specs.Commands.{fitting, front, behind, commands_in, commands_of, longer as long_message, above}
use Rattle.sender.specs.State.{valid_of}
use Rattle.sender.specs.Queueing.{room_of, need_of, joined_to, pushed_all, queued_to, queued_of, words_check, placed_of, sent_of}
use Rattle.sender.specs.Requests.{requested_of}
use Rattle.writing.specs.Writing.{served_in, served_of, idled_of, written_off, new_of, written_by}
use Rattle.window.specs.declared.window.Class.{Class}
use Rattle.window.specs.declared.window.Class.TheVariants.{New, Late, Duplicate}
use Rattle.idle.specs.Schedule.{idle_next}
use Rattle.rows.specs.Rows.{row_of, packets_from, sizes_of, any_words}
use Rattle.rows.specs.Choice.{repeats_of}
use Rattle.receiver.specs.Receiver.{due_after}
use Rattle.receiver.specs.declared.receiver.Delivery.{Delivery}
use Rattle.receiver.specs.declared.receiver.Request.TheVariants.{Written as Asked}
use Rattle.receiver_log.specs.Calls.{data_command, poll, take_request, Entry as Heard, data_entry, poll_entry, take_entry, AllTyped}
use Rattle.receiver_log.specs.Calls as Chamber
use Rattle.receiver_log.specs.Log.{reports, origin, is_ahead, place, start, high, times, unprocessed, Missing}
use Rattle.receiver_log.specs.Spans.{ends_of, class_in, lost_at, lost_in, missing_ends, asked_for}
use Rattle.receiver_log.specs.Answers.{answer_of, said_of}
use Rattle.receiver_log.specs.Promise.{log_of}
use Rattle.receiver_log.proofs.Runs.{run_said}
use Rattle.delivery.specs.Commands.{Command, data_in, wholes_in, data_of}
use Rattle.delivery.specs.Positions.{opens, position, newest_with}
use Rattle.delivery.specs.Console.{Lent, bytes, Call, open_payload, lend_again, queue_words, retransmit_request, write_into, put_in, write_astray, Entry, queued, wrote, stood, noted, step_of, log_from, fresh_console, AllAllowed, accepted, written, positions, position_of, Was, was_wrote, was}
use Rattle.delivery.specs.Sentence.{Line, fresh, hear, pass, Premises, Run, heard_in, Holds}
use Rattle.delivery.specs.Chamber.{handed_on}
use Rattle.delivery.proofs.Delivery.{sentence}

-- ---- the console

abbrev growing : ℕ → ℕ → StreamConfig
growing G R =
    record { idle_interval_ms = 100; idle_growth = G; idle_further = 5; fec_repeats = R; retransmit = true; request_delay_ms = 10; max_requests = 3; max_command_words = 64 }

abbrev pub settings : ℕ → StreamConfig
settings R = growing 2 R

abbrev bad_settings : StreamConfig
bad_settings = growing 0 0

abbrev pub A : List ℕ
A = 0x20903C40 ∷ []

abbrev pub B : List ℕ
B = 0x20803C00 ∷ []

abbrev D : List ℕ
D = 0x40903C00 ∷ 0xFFFF0000 ∷ []

abbrev E : List ℕ
E = 0x20903E40 ∷ []

abbrev half_message : List ℕ
half_message = 0x40903C00 ∷ []

-- a request that came from the chamber, and one that the console itself makes
abbrev asked : RetransmitRequest
asked = record { seq = 0; count = 1 }

abbrev asks5 : RetransmitRequest
asks5 = record { seq = 5; count = 1 }

abbrev bad_payload : PayloadWriter
bad_payload = record { len = 6; max = 1400 }

abbrev pub zeros : ℕ → List ℕ
zeros n = replicate n 0

-- payloads 0 to 2
abbrev early : List Call
early =
    open_payload 7 []
    ∷ open_payload 1400 (zeros 12) ∷ queue_words (settings 0) A ∷ write_into 0 (settings 0) 0
    ∷ open_payload 1400 (zeros 12) ∷ queue_words (settings 0) B ∷ write_into 1 (settings 0) 5
    ∷ retransmit_request (settings 0) asked ∷ open_payload 1400 (zeros 12) ∷ write_into 2 (settings 0) 20
    ∷ []

-- payload 3, as it is sent first
abbrev fourth : List Call
fourth = open_payload 1400 (zeros 40) ∷ put_in 3 (Writes.request asks5) ∷ queue_words (settings 2) D ∷ write_into 3 (settings 2) 30 ∷ []

abbrev turned_away : List Call
turned_away = queue_words (settings 0) half_message ∷ write_into 3 bad_settings 31 ∷ write_astray bad_payload (zeros 12) (settings 0) 32 ∷ []

-- payload 3, as it is sent then
abbrev late : List Call
late = lend_again 3 (zeros 8) ∷ queue_words (settings 0) E ∷ write_into 3 (settings 0) 40 ∷ []

abbrev calls : List Call
calls = early ++ (fourth ++ (turned_away ++ late))

-- an empty payload, one that holds n bytes of words and is followed by m free ones, and one that fills its buffer
abbrev pub empty : ℕ → Lent
empty n = record { payload = record { len = 0; max = 1400 }; buffer = zeros n }

abbrev pub partly : ℕ → List ℕ → ℕ → Lent
partly n words m = record { payload = record { len = n; max = 1400 }; buffer = bytes_of words ++ zeros m }

abbrev pub full : ℕ → List ℕ → Lent
full n words = record { payload = record { len = n; max = 1400 }; buffer = bytes_of words }

abbrev payload0 : Lent
payload0 = full 12 (0x4D494449 ∷ 0xFF010000 ∷ A)

abbrev payload1 : Lent
payload1 = full 12 (0x4D494449 ∷ 0xFF010001 ∷ B)

abbrev payload2 : Lent
payload2 = full 12 (0x4D494449 ∷ 0xFF010000 ∷ A)

-- payload 3 with its request, as it is sent first, with its buffer lent again, and as it is sent then
abbrev request3 : List ℕ
request3 = 0x4D494449 ∷ 0x80010005 ∷ 0x00010000 ∷ []

abbrev first3 : List ℕ
first3 = request3 ++ (0xFF010000 ∷ A ++ (0xFF010001 ∷ B ++ (0xFF020002 ∷ D)))

abbrev payload3 : Lent
payload3 = full 40 first3

abbrev longer3 : Lent
longer3 = partly 40 first3 8

abbrev again3 : Lent
again3 = full 48 (first3 ++ (0xFF010003 ∷ E))

abbrev pub all : ℕ → Result Written Refusal
all n = Ok record { commands = n; more = false }

abbrev sent : List Entry
sent =
    wrote 3 longer3 again3 (all 1) ∷ queued (settings 0) E (Ok tt) ∷ stood 3 longer3
    ∷ noted ∷ wrote 3 payload3 payload3 (Err IdleGrowth) ∷ queued (settings 0) half_message (Err InvalidUmpData)
    ∷ wrote 3 (partly 12 request3 28) payload3 (all 3) ∷ queued (settings 2) D (Ok tt) ∷ stood 3 (partly 12 request3 28) ∷ stood 3 (empty 40)
    ∷ wrote 2 (empty 12) payload2 (all 1) ∷ stood 2 (empty 12) ∷ noted
    ∷ wrote 1 (empty 12) payload1 (all 1) ∷ queued (settings 0) B (Ok tt) ∷ stood 1 (empty 12)
    ∷ wrote 0 (empty 12) payload0 (all 1) ∷ queued (settings 0) A (Ok tt) ∷ stood 0 (empty 12)
    ∷ noted
    ∷ []

sent_is : log_from (fresh_console 65 4 (zeros 65)) [] calls ≡ sent
unfolding log_from step_of new_answer request_answer requested_of request requests asks push_answer opened_of type_words divided messages_of whole_of slot_of ring_stored ring_read header_at words_from numbered state_ok walk_ok pop_one popped grown pushed longer appended entry_packet fitting front behind commands_in commands_of long_message above valid_of room_of need_of joined_to pushed_all queued_to queued_of words_check placed_of sent_of row_of packets_from served_in served_of idle_next idled_of sizes_of repeats_of any_words written_off new_of written_by send_answer write_answer check_of payload_valid written_of bytes_of spliced
sent_is = refl

-- ---- the chamber

abbrev arrivals : List Chamber.Call
arrivals =
    data_command (settings 0) 6 1 B ∷ data_command (settings 0) 7 1 B
    ∷ poll (settings 0) 16 ∷ take_request (settings 0) (record { len = 0; max = 1400 }) (zeros 12)
    ∷ data_command (settings 0) 21 0 A
    ∷ data_command (settings 2) 31 2 D ∷ data_command (settings 2) 31 0 A
    ∷ data_command bad_settings 32 9 B
    ∷ data_command (settings 0) 41 3 E ∷ data_command (settings 0) 41 2 D
    ∷ []

abbrev pub delivery : ℕ → Class → Option SeqRange → Delivery
delivery seq class gap = record { seq = seq; class = class; gap = gap; lost = None }

abbrev arrived : List Heard
arrived =
    data_entry (settings 0) 41 2 D (Ok (delivery 2 Duplicate None))
    ∷ data_entry (settings 0) 41 3 E (Ok (delivery 3 (New 0) None))
    ∷ data_entry bad_settings 32 9 B (Err IdleGrowth)
    ∷ data_entry (settings 2) 31 0 A (Ok (delivery 0 Duplicate None))
    ∷ data_entry (settings 2) 31 2 D (Ok (delivery 2 (New 0) None))
    ∷ data_entry (settings 0) 21 0 A (Ok (delivery 0 Late None))
    ∷ take_entry (settings 0) (record { len = 0; max = 1400 }) (zeros 12) (Ok Asked) (record { len = 12; max = 1400 }) (bytes_of (0x4D494449 ∷ 0x80010000 ∷ 0x00010000 ∷ []))
    ∷ poll_entry (settings 0) 16 (Ok None)
    ∷ data_entry (settings 0) 7 1 B (Ok (delivery 1 Duplicate None))
    ∷ data_entry (settings 0) 6 1 B (Ok (delivery 1 (New 1) (Some record { first = 0; count = 1 })))
    ∷ []

typed : AllTyped arrivals
typed = omega arith

arrived_is : log_of 64 arrivals ≡ arrived
unfolding said_of answer_of check_of class_in is_ahead place lost_in lost_at missing_ends ends_of unprocessed start due_after asked_for payload_valid written_of bytes_of spliced
arrived_is = run_said 64 (omega arith) (omega arith) arrivals typed ∙ refl

-- ---- the line

abbrev a : Command
a = record { number = 0; words = A }

abbrev b : Command
b = record { number = 1; words = B }

abbrev d : Command
d = record { number = 2; words = D }

abbrev e : Command
e = record { number = 3; words = E }

reads : (data_of (bytes payload1) ≡ b ∷ []) × (data_of (bytes payload2) ≡ a ∷ []) × (data_of (bytes payload3) ≡ a ∷ b ∷ d ∷ []) × (data_of (bytes again3) ≡ a ∷ b ∷ d ∷ e ∷ [])
unfolding data_of data_in wholes_in items_of items_from signed words_of bytes_of
reads = (refl, refl, refl, refl)

-- behind n newer entries
was_behind : (n : ℕ) (t : List Entry) (k : ℕ) (v : Lent) → Was (drop n t) k v → Was t k v
was_behind zero t k v h = h
was_behind (suc n) [] k v h = h
was_behind (suc n) (x ∷ t) k v h = was x (was_behind n t k v h)

was1 : Was sent 1 payload1
was1 = was_behind 13 sent 1 payload1 (was_wrote _ _ _ _ _)

was2 : Was sent 2 payload2
was2 = was_behind 10 sent 2 payload2 (was_wrote _ _ _ _ _)

was3 : Was sent 3 payload3
was3 = was_behind 6 sent 3 payload3 (was_wrote _ _ _ _ _)

again : Was sent 3 again3
again = was_wrote _ _ _ _ _

-- the first of payload 1 opened position 1; that of payload 2 and the first of payload 3 repeat position 0; the third and the fourth of payload 3 opened positions 2 and 3
places : (1 ≡ position_of (written sent) 1 0) × (0 ≡ position_of (written sent) 2 0) × (0 ≡ position_of (written sent) 3 0) × (2 ≡ position_of (written sent) 3 2) × (3 ≡ position_of (written sent) 3 3)
unfolding data_of data_in wholes_in items_of items_from signed words_of bytes_of opens position newest_with
places = (refl, refl, refl, refl, refl)

-- newest first
abbrev heard_positions : List ℕ
heard_positions = 2 ∷ 3 ∷ 0 ∷ 2 ∷ 0 ∷ 1 ∷ 1 ∷ []

line : Line sent arrived heard_positions
line =
    hear (hear (pass (hear (hear (hear (pass (pass (hear (hear fresh
    1 payload1 was1 [] [] b reads.0 1 places.0 (omega arith) (omega arith) (settings 0) 6 _)
    1 payload1 was1 [] [] b reads.0 1 places.0 (omega arith) (omega arith) (settings 0) 7 _)
    _ refl) _ refl)
    2 payload2 was2 [] [] a reads.1 0 places.1 (omega arith) (omega arith) (settings 0) 21 _)
    3 payload3 was3 (a ∷ b ∷ []) [] d reads.2 2 places.3 (omega arith) (omega arith) (settings 2) 31 _)
    3 payload3 was3 [] (b ∷ d ∷ []) a reads.2 0 places.2 (omega arith) (omega arith) (settings 2) 31 _)
    _ refl)
    3 again3 again (a ∷ b ∷ d ∷ []) [] e reads.3 3 places.4 (omega arith) (omega arith) (settings 0) 41 _)
    3 again3 again (a ∷ b ∷ []) (e ∷ []) d reads.3 2 places.3 (omega arith) (omega arith) (settings 0) 41 _

-- ---- the premises

positions_are : positions sent ≡ A ∷ B ∷ D ∷ E ∷ []
unfolding data_of data_in wholes_in items_of items_from signed words_of bytes_of opens
positions_are = refl

highest_is : high (reports arrived) ≡ origin + 3
unfolding place is_ahead
highest_is = refl

handed_once : (times (reports arrived) origin ≡ 1) × (times (reports arrived) (origin + 1) ≡ 1) × (times (reports arrived) (origin + 2) ≡ 1)
unfolding place is_ahead
handed_once = (refl, refl, refl)

last_place : (x : ℕ) → origin ≤ x → x < origin + 3 → eqb x origin ≡ false → eqb x (origin + 1) ≡ false → x ≡ origin + 2
last_place x from to f g = omega (arith, tests)

none_missing_lem : (x : ℕ) → Missing 64 (reports arrived) x → ⊥
none_missing_lem x m = elim (split (eqb x origin)) [
  | inl k ↦ not_at origin (eqb-true x origin k) handed_once.0
  | inr k ↦ elim (split (eqb x (origin + 1))) [
    | inl l ↦ not_at (origin + 1) (eqb-true x (origin + 1) l) handed_once.1
    | inr l ↦ not_at (origin + 2) (last_place x m.from_0 (rw highest_is at m.below) k l) handed_once.2
  ]
]
  where
    not_at : (y : ℕ) → x ≡ y → times (reports arrived) y ≡ 1 → ⊥
    not_at y same one = let z : times (reports arrived) y ≡ 0 = rw same at m.not_handed_on in let w : ◌≡◌ {A = ℕ} 0 1 = sym z ∙ one in omega arith

premises : Premises 64 sent arrived heard_positions
unfolding words_in
premises = record {
  line = line;
  all_written = rw positions_are;
  newest_heard = rw positions_are (λ some. Memᴰ.tail (Memᴰ.head refl));
  no_loss = (refl, (refl, (refl, (refl, (refl, (refl, (refl, (refl, (refl, (refl, tt))))))))));
  nothing_missing = none_missing_lem;
}

-- ---- arguments

both_allowed : (xs ys : List Call) → AllAllowed xs → AllAllowed ys → AllAllowed (xs ++ ys)
both_allowed [] ys h k = k
both_allowed (x ∷ xs) ys h k = (h.0, both_allowed xs ys h.1 k)

fourth_allowed : AllAllowed fourth
unfolding Words32 Writes.Typed
fourth_allowed = (tt, ((omega arith, refl), (omega arith, (omega arith, tt))))

turned_away_allowed : AllAllowed turned_away
unfolding Words32 payload_valid
turned_away_allowed = (omega arith, (omega arith, (λ passed. refl, tt)))

allowed : AllAllowed calls
unfolding Words32
allowed =
    both_allowed early (fourth ++ (turned_away ++ late)) (omega arith)
    (both_allowed fourth (turned_away ++ late) fourth_allowed
    (both_allowed turned_away late turned_away_allowed (omega arith)))

started : (new_answer 65 4 (zeros 65)).0.answer ≡ Ok tt
unfolding new_answer
started = refl

pub example : Run
example = record {
  words = 65;
  places = 4;
  ring₀ = zeros 65;
  started = started;
  calls = calls;
  allowed = allowed;
  window = 64;
  least = omega arith;
  most = omega arith;
  arrivals = arrivals;
  typed = typed;
}

-- so the sentence is said of something
pub example_holds : Holds example
unfolding example
example_holds = (heard_positions, rw (sent_is, arrived_is) premises)

accepted_are : accepted sent ≡ A ++ (B ++ (D ++ E))
accepted_are = refl

pub example_said : handed_on (heard_in example) ≡ A ++ (B ++ (D ++ E))
unfolding example
example_said = sentence.joined example example_holds ∙ rw sent_is accepted_are
