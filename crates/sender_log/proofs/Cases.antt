-- Cases of the book and of past calls, computed.
use mathlib.Core.Path.{◌≡◌, refl}
use Rattle.std.proofs.Common.{Some, None, Result, Ok}
use Rattle.config.specs.declared.refusal.Refusal.{Refusal}
use Rattle.writing.specs.declared.writing.Written.{Written}
use mathlib.Core.Bool.{true, false}
use mathlib.Core.List.{List, [], ◌∷◌}
use Prim.Native.Nat.{ℕ}
use lib.ListN.{take, replicate}
use Rattle.config.specs.Settings.{check_of}
use Rattle.config.specs.declared.settings.StreamConfig.{StreamConfig}
use Rattle.packet.specs.Bytes.{bytes_of, words_of, spliced}
use Rattle.packet.specs.Read.{items_from}
use Rattle.packet.specs.Write.{valid_of, written_of}
use Rattle.packet.specs.declared.writer.PayloadWriter.{PayloadWriter}
use Rattle.command.specs.Messages.{type_words, divided, messages_of, whole_of, words_in}
use Rattle.command.specs.Write.{error_packet}
use Rattle.command.specs.declared.retransmit.RetransmitRequest.{RetransmitRequest}
use Rattle.history.specs.Entries.{size, kept}
use Rattle.history.specs.Queue.{asks}
use Rattle.history.specs.Written.{data_packet}
use Rattle.rows.specs.Rows.{row_of, sizes_of, any_words}
use Rattle.rows.specs.Choice.{repeats_of}
use Rattle.fronts.specs.Commands.{fitting, front, behind, commands_in, commands_of, longer, above}
use Rattle.sender.specs.Queueing.{words_check}
use Rattle.sender.specs.declared.sender.RequestOutcome.TheVariants.{Queued as Waits, Error}
use Rattle.sender_log.specs.Book.{Book, nothing, freed, pushed_in, pushed_all_in, joined_last, joined_in, room_in, queued_in, sent_in, requested_in}
use Rattle.sender_log.specs.Writes.{data_from, answer_in, rest_in, served_in, idled_in, written_on, WriteIn, new_written, written_in, write_in}
use Rattle.sender_log.specs.Calls.{Call, queue_words, retransmit_request, write, Entry}
use Rattle.sender_log.specs.Answers.{told_of, said_from}
use Rattle.sender_log.specs.Added.{items_added, wholes_in, added_in, opens_in}
use Rattle.sender_log.specs.Schedule.{Schedule, none, since, Queued, step_after, timer_of}
use Rattle.sender_log.specs.Opened.{Past, longest_end, held, oldest_at, data_at}
use Rattle.sender_log.specs.Requests.{answer_to, answers_to, in_turn, left_after}
use Rattle.sender_log.specs.Past.{past_after, past_in}
use Rattle.sender_log.specs.Counted.{wanted_in}

-- R repeats
abbrev settings : ℕ → StreamConfig
settings R =
    record { idle_interval_ms = 100; idle_growth = 2; idle_further = 5; fec_repeats = R; retransmit = true; request_delay_ms = 10; max_requests = 3; max_command_words = 64 }

abbrev holding : ℕ → List (List ℕ) → List (List ℕ) → List RetransmitRequest → Book
holding first ws us rs = record { first = first; written = ws; unwritten = us; waiting = rs; idle = None }

abbrev three : List (List ℕ)
three = (0x20903C40 ∷ []) ∷ (0x20803C00 ∷ []) ∷ (0x20903D40 ∷ []) ∷ []

-- written at 1000 into an empty payload of at most `max` bytes
abbrev written : ℕ → Book → ℕ → WriteIn
written R b max = write_in 65 (settings R) 1000 b record { len = 0; max = max } (replicate 32 0)

abbrev bytes : WriteIn → List ℕ
bytes w = take w.payload.len w.bytes

abbrev answer : ℕ → Result Written Refusal
answer n = Ok record { commands = n; more = false }

abbrev cut : ℕ → Result Written Refusal
cut n = Ok record { commands = n; more = true }

-- ---- a request for all from 65,535 on, answered in two payloads: the first holds two commands, and 1 is left

abbrev asked : WriteIn
asked = written 0 (holding 65535 three [] (record { seq = 65535; count = 0 } ∷ [])) 20

pub two_payloads : (asked.answer ≡ cut 2) × (bytes asked ≡ bytes_of (0x4D494449 ∷ 0xFF01FFFF ∷ 0x20903C40 ∷ 0xFF010000 ∷ 0x20803C00 ∷ []))
    × (asked.book ≡ holding 65535 three [] (record { seq = 1; count = 1 } ∷ []))
unfolding check_of valid_of written_of bytes_of spliced row_of data_from answer_in rest_in served_in written_in write_in
two_payloads = (refl, refl, refl)

pub second_payload : ((written 0 asked.book 20).answer ≡ answer 1) × (bytes (written 0 asked.book 20) ≡ bytes_of (0x4D494449 ∷ 0xFF010001 ∷ 0x20903D40 ∷ []))
    × ((written 0 asked.book 20).book ≡ holding 65535 three [] [])
unfolding check_of valid_of written_of bytes_of spliced row_of data_from answer_in rest_in served_in idled_in new_written written_in write_in
second_payload = (refl, refl, refl)

-- ---- a number that has left

pub error_for_left : ((requested_in 4 (holding 65536 three [] []) (settings 0) record { seq = 65535; count = 1 }).outcome ≡ Ok (Error record { reason = 1; seq = 0 }))
    × ((requested_in 4 (holding 65536 three [] []) (settings 0) record { seq = 2; count = 1 }).outcome ≡ Ok Waits)
    × ((requested_in 4 (holding 65536 three [] []) (settings 0) record { seq = 3; count = 1 }).outcome ≡ Ok (Error record { reason = 1; seq = 0 }))
unfolding check_of asks requested_in
error_for_left = (refl, refl, refl)

-- it left while its request waited
pub error_in_turn : bytes (written 0 (holding 65536 three [] (record { seq = 65535; count = 1 } ∷ [])) 20) ≡ bytes_of (0x4D494449 ∷ 0x81010100 ∷ 0 ∷ [])
unfolding check_of valid_of written_of bytes_of spliced row_of data_from answer_in rest_in served_in idled_in new_written written_in write_in
error_in_turn = refl

-- ---- two repeats and room for one: the oldest is dropped

abbrev repeated : WriteIn
repeated = written 2 (holding 0 ((0x20903C40 ∷ []) ∷ (0x20803C00 ∷ []) ∷ []) ((0x20903D40 ∷ []) ∷ []) []) 20

pub oldest_dropped : (repeated.answer ≡ answer 2) × (bytes repeated ≡ bytes_of (0x4D494449 ∷ 0xFF010001 ∷ 0x20803C00 ∷ 0xFF010002 ∷ 0x20903D40 ∷ []))
    × (repeated.book.written ≡ three) × (repeated.book.unwritten ≡ []) × (repeated.book.idle ≡ Some record { due = 1100; step = 0; interval = 100 })
unfolding check_of valid_of written_of bytes_of spliced row_of data_from sizes_of repeats_of any_words served_in idled_in written_on new_written written_in write_in
oldest_dropped = (refl, refl, refl, refl, refl)

-- ---- a command of 20 words comes into a history of 65: the oldest written one leaves, and the unwritten one stays

abbrev of : ℕ → List ℕ
of n = replicate n 0x20903C40

pub oldest_leaves : pushed_in 65 (of 20) (holding 7 (of 30 ∷ of 2 ∷ []) (of 10 ∷ []) []) ≡ holding 8 (of 2 ∷ []) (of 10 ∷ of 20 ∷ []) []
unfolding size kept freed pushed_in
oldest_leaves = refl

-- ---- over past calls: 31, 31 and 2 words in a history of 65, the first two written; the first has left

abbrev past : List (List ℕ) → List (List ℕ) → List RetransmitRequest → Schedule → Past
past ws us rs t = record { written = ws; unwritten = us; waiting = rs; schedule = t }

abbrev request : ℕ → ℕ → RetransmitRequest
request seq count = record { seq = seq; count = count }

abbrev leaving : Past
leaving = past (of 31 ∷ of 31 ∷ []) (of 2 ∷ []) [] (since 1000 100 [])

abbrev payload : ℕ → PayloadWriter
payload max = record { len = 0; max = max }

pub first_left_lem : (held 65 leaving ≡ of 31 ∷ of 2 ∷ []) × (oldest_at 65 leaving ≡ 1)
unfolding longest_end size
first_left_lem = (refl, refl)

pub left_answered : (answer_to 65 leaving (request 0 1) ≡ error_packet record { reason = 1; seq = 1 } ∷ []) × (answer_to 65 leaving (request 1 0) ≡ data_packet 1 (of 31) ∷ [])
    × (answer_to 65 leaving (request 2 1) ≡ error_packet record { reason = 1; seq = 1 } ∷ [])
unfolding longest_end size answer_to data_at
left_answered = (refl, refl, refl)

-- by a log of calls, one refused with 5 among them, in a history of 7 words: a start takes no fewer than 65, the definitions any
abbrev queue : List ℕ → Call
queue ws = queue_words (settings 0) ws

abbrev writing : ℕ → ℕ → Call
writing time max = write (settings 0) time (payload max) (replicate max 0)

abbrev leaving_log : List Entry
leaving_log = said_from 7 4 nothing [] (queue (of 2) ∷ writing 10 16 ∷ queue (0x40903C40 ∷ []) ∷ queue (of 2) ∷ writing 1000 16 ∷ queue (of 2) ∷ [])

pub left_by_log : (past_in 7 leaving_log ≡ past (of 2 ∷ of 2 ∷ []) (of 2 ∷ []) [] (since 1000 100 [])) × (held 7 (past_in 7 leaving_log) ≡ of 2 ∷ of 2 ∷ []) × (oldest_at 7 (past_in 7 leaving_log) ≡ 1)
unfolding past_in past_after said_from told_of sent_in queued_in pushed_all_in pushed_in joined_in joined_last room_in freed kept size words_check above longer whole_of messages_of divided type_words fitting front behind commands_of commands_in requested_in asks write_in written_in served_in idled_in new_written written_on data_from answer_in rest_in check_of valid_of written_of bytes_of words_of spliced row_of sizes_of repeats_of any_words longest_end data_at answer_to in_turn left_after items_added items_from wholes_in opens_in words_in timer_of step_after
left_by_log = (refl, refl, refl)

-- a request that takes the payload, so that the new command is left
pub left_unwritten : past_in 65 (said_from 65 4 nothing [] (queue (of 1) ∷ writing 10 12 ∷ retransmit_request (settings 0) (request 0 1) ∷ queue (of 2) ∷ writing 1000 12 ∷ []))
    ≡ past (of 1 ∷ []) (of 2 ∷ []) [] (since 10 100 [])
unfolding past_in past_after said_from told_of sent_in queued_in pushed_all_in pushed_in joined_in joined_last room_in freed kept size words_check above longer whole_of messages_of divided type_words fitting front behind commands_of commands_in requested_in asks write_in written_in served_in idled_in new_written written_on data_from answer_in rest_in check_of valid_of written_of bytes_of words_of spliced row_of sizes_of repeats_of any_words longest_end data_at answer_to in_turn left_after items_added items_from wholes_in opens_in words_in timer_of step_after
left_unwritten = refl

-- ---- what a write has to write: a retransmit, one repeat and two new ones; the last doesn't fit in 28 bytes

abbrev wishing : Past
wishing = past three ((0x20803D00 ∷ []) ∷ (0x20903E40 ∷ []) ∷ []) (request 0 1 ∷ []) none

pub wanted_in_order : wanted_in 65 (settings 1) 1000 wishing (payload 28) (replicate 32 0)
    ≡ data_packet 0 (0x20903C40 ∷ []) ∷ data_packet 2 (0x20903D40 ∷ []) ∷ data_packet 3 (0x20803D00 ∷ []) ∷ data_packet 4 (0x20903E40 ∷ []) ∷ []
unfolding wanted_in longest_end size answers_to answer_to in_turn data_at sizes_of timer_of
wanted_in_order = refl

abbrev wished : WriteIn
wished = written 1 (holding 0 three ((0x20803D00 ∷ []) ∷ (0x20903E40 ∷ []) ∷ []) (request 0 1 ∷ [])) 28

pub cut_at_fourth : (wished.answer ≡ cut 3) × (bytes wished ≡ bytes_of (0x4D494449 ∷ 0xFF010000 ∷ 0x20903C40 ∷ 0xFF010002 ∷ 0x20903D40 ∷ 0xFF010003 ∷ 0x20803D00 ∷ []))
unfolding check_of valid_of written_of bytes_of spliced row_of data_from answer_in rest_in sizes_of repeats_of any_words served_in idled_in written_on new_written written_in write_in
cut_at_fourth = (refl, refl)

-- reading finds the three, one of which opens a position
pub three_found : (added_in (payload 28) wished.payload wished.bytes ≡ data_packet 0 (0x20903C40 ∷ []) ∷ data_packet 2 (0x20903D40 ∷ []) ∷ data_packet 3 (0x20803D00 ∷ []) ∷ [])
    × (opens_in 3 (added_in (payload 28) wished.payload wished.bytes) ≡ 1)
unfolding check_of valid_of written_of bytes_of spliced row_of data_from answer_in rest_in sizes_of repeats_of any_words served_in idled_in written_on new_written written_in write_in items_added items_from wholes_in words_of opens_in
three_found = (refl, refl)

-- a request for all from 0 on, of which two were written
pub one_waits : left_after 65 (past three [] [] none) (request 0 0 ∷ []) 2 ≡ request 2 1 ∷ []
unfolding left_after longest_end size answer_to data_at
one_waits = refl

-- ---- T1 100, G 2, K 5, R 2, data written at 0: the timer before the first idle command, after three, after seven, and after all eight

abbrev at : ℕ → Queued
at time = record { time = time; settings = settings 2 }

abbrev first_three : List Queued
first_three = at 300 ∷ at 200 ∷ at 100 ∷ []

abbrev first_seven : List Queued
first_seven = at 3300 ∷ at 1700 ∷ at 900 ∷ at 500 ∷ first_three

pub idle_steps : (timer_of (since 0 100 []) ≡ Some record { due = 100; step = 0; interval = 100 })
    × (timer_of (since 0 100 first_three) ≡ Some record { due = 500; step = 3; interval = 200 })
    × (timer_of (since 0 100 first_seven) ≡ Some record { due = 6500; step = 7; interval = 3200 }) × (timer_of (since 0 100 (at 6500 ∷ first_seven)) ≡ None)
unfolding timer_of step_after
idle_steps = (refl, refl, refl, refl)
