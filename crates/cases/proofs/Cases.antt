-- The table is computed from the definitions; the far loss of P7 and every window of P8 come from laws.
use Prim.Native.Nat.{ℕ, ◌+◌, ◌≤◌}
use Rattle.std.proofs.Common.{None, Ok, Option, Result}
use mathlib.Core.Bool.{true}
use mathlib.Core.Path.{◌≡◌, refl, sym, ap}
use native.Mathlib.Omega.{arith}
use lib.Count.{count_trailing_zeros}
use borrow.Author.Tests.{le-leb, lt-leb, lt-ltb}
use Rattle.config.specs.Settings.{check_of}
use Rattle.packet.specs.Bytes.{bytes_of, words_of, spliced}
use Rattle.packet.specs.Read.{next_of}
use Rattle.packet.specs.Write.{valid_of as payload_valid, written_of}
use Rattle.command.specs.Messages.{type_words, divided, messages_of, whole_of, message_at, walked}
use Rattle.command.specs.Write.{error_written}
use Rattle.window.proofs.Losses.{far_pos, far_bottom, far_skipped}
use Rattle.window.proofs.Preserved.{valid_fresh}
use Rattle.window.proofs.Spans.{span_some}
use Rattle.window.specs.Answers.{new_answer, start_answer, accept_answer, extended}
use Rattle.window.specs.Arrival.{class_of, moved_of, lost_of, new_of, accept_of}
use Rattle.window.specs.Set.{val, set_of, top_in, top_of, bottom_of}
use Rattle.window.specs.Window.{valid_of, fresh, processed, missing_of, span_of, request_of}
use Rattle.window.specs.declared.window.Class.TheVariants.{New, Duplicate}
use Rattle.window.specs.declared.window.Taken.{Taken}
use Rattle.config.specs.declared.refusal.Refusal.{Refusal}
use Rattle.window.specs.declared.window.SeqRange.{SeqRange}
use Rattle.history.specs.Ring.{slot_of, ring_stored, ring_read}
use Rattle.history.specs.Headers.{header_at, words_from, numbered}
use Rattle.history.specs.State.{state_ok, walk_ok}
use Rattle.history.specs.Push.{pop_one, popped, grown, pushed, longer, appended}
use Rattle.history.specs.Written.{entry_packet}
use Rattle.idle.specs.Schedule.{idle_next}
use Rattle.rows.specs.Rows.{row_of, packets_from, sizes_of, any_words}
use Rattle.rows.specs.Choice.{repeats_of}
use Rattle.fronts.specs.Commands.{fitting, front, behind, commands_in, commands_of, longer as long_message, above}
use Rattle.sender.specs.State.{valid_of as sender_valid}
use Rattle.sender.specs.Queueing.{room_of, need_of, joined_to, pushed_all, queued_to, queued_of, words_check, placed_of, sent_of}
use Rattle.writing.specs.Writing.{served_in, served_of, idled_of, written_off, new_of as new_sent, written_by}
use Rattle.sender.specs.Answers.{send_answer}
use Rattle.writing.specs.Answers.{write_answer}
use Rattle.receiver.specs.Receiver.{valid_of as receiver_valid, due_after, settled_of, heard_of, polled_of, offered_of, taken_of}
use Rattle.receiver.specs.Answers.{data_answer as receiver_data, poll_answer as receiver_poll}
use Rattle.stream.specs.State.{valid_of as stream_valid}
use Rattle.stream.specs.Ends.{send_answer as stream_send, data_answer, poll_answer}
use Rattle.stream.specs.Answers.{wants_answer}
use Rattle.stream.specs.Writing.{sent_after, data_written, write_answer as stream_write}
use Rattle.stream.specs.Sending.{send_and_write_answer}
use Rattle.c_words.specs.Entry.{words_entry}
use Rattle.c_words.specs.Limits.{within}
use Rattle.c_state.specs.Pack.{four_in, word, two_in, pair, flags_in, flags_number, held}
use Rattle.c_state.specs.Receiver.{receiver_words, receiver_of, holds_but_timer, receiver_holds}
use Rattle.c_state.specs.Sender.{first_in, second_in, requests_in}
use Rattle.c_state.specs.Stream.{receiver_fits}
use Rattle.c_state.specs.Receiving.{waits_of}
use Rattle.c_window.specs.Window.{window_fits, start_export}
use Rattle.cases.specs.Cases.{range, Table, PayloadTest, WordsTest, ReasonsTest, HistoryTest, RingTest, ReadTest, MessagesTest, StreamTest, NumbersTest, LayoutTest, dues_from, IdleTimes}

-- the lost set has 32,702 positions: its ends come from laws and are not computed
lost_far : span_of 32766 64 (lost_of 64 0 32767) ≡ range 0 32702
lost_far =
    sym (span_some 32766 64 (lost_of 64 0 32767) 32765 64 all (far_pos 64 0 32767 32701 refl)
    (ap (λ (x : ℕ). 64 + x) (sym (far_skipped 64 0 32767 32701 refl refl)))
    (ap (λ (x : ℕ). 64 + x) (sym (far_bottom 64 0 32767 32701 refl))) (refl, refl))
  where
    all : SeqRange
    all = record { first = 0; count = 32702 }

abbrev heard_far : Option SeqRange → Result Taken Refusal
heard_far lost = Ok record { class = New 32766; lost = lost }

far : (accept_answer (fresh 64) 0x7FFE).answer ≡ Ok record { class = New 32766; lost = range 0 32702 }
unfolding accept_answer valid_of accept_of class_of new_of missing_of val set_of
far = ap heard_far lost_far

module _ (W : ℕ) (l : 1 ≤ W) (m : W ≤ 128) where
  starts : new_answer W ≡ Ok (fresh W)
  unfolding start_answer
  starts = rw (le-leb _ _ l, le-leb _ _ m)

  -- 0x7FFF is 32,768 behind, and so beyond every window
  beyond : class_of (fresh W) 0x7FFF ≡ Duplicate
  unfolding class_of
  beyond = rw (lt-leb 32768 W (omega arith))

  valid : valid_of (fresh W) ≡ true
  unfolding valid_of
  valid = rw (le-leb _ _ l, le-leb _ _ m, lt-ltb _ _ (valid_fresh W 65535 l m).inside)

  far_behind : (accept_answer (fresh W) 0x7FFF).answer ≡ Ok record { class = Duplicate; lost = None }
  unfolding accept_answer accept_of
  far_behind = rw (valid, beyond)

pub table : Table
unfolding accept_answer valid_of accept_of class_of processed new_of span_of lost_of missing_of moved_of val set_of top_of top_in bottom_of count_trailing_zeros extended request_of type_words divided messages_of whole_of slot_of ring_stored ring_read header_at words_from numbered state_ok walk_ok pop_one popped grown pushed longer appended entry_packet fitting front behind commands_in commands_of long_message above sender_valid room_of need_of joined_to pushed_all queued_to queued_of words_check placed_of sent_of row_of packets_from served_in served_of idle_next idled_of sizes_of repeats_of any_words written_off new_sent written_by send_answer write_answer check_of payload_valid written_of bytes_of spliced
table = record {
  start = starts;
  P1 = refl;
  P2 = refl;
  P3 = refl;
  P4 = (refl, refl);
  P5 = (refl, refl);
  P6 = refl;
  P7 = far;
  P8 = far_behind;
  P9 = (refl, refl);
  P10 = (refl, refl, refl);
  P11 = (refl, refl);
  P12 = (refl, refl);
}

pub payload_test : PayloadTest
unfolding payload_valid written_of
payload_test = record { below = refl; above_limit = refl; above_buffer = refl; uneven = refl; limit_below = refl; limit_above = refl }

pub words_test : WordsTest
unfolding payload_valid written_of
words_test = record { most = refl; above = refl }

pub reasons_test : ReasonsTest
unfolding error_written payload_valid written_of bytes_of spliced
reasons_test = record { last = refl; above = refl }

pub history_test : HistoryTest
unfolding type_words divided messages_of whole_of slot_of ring_stored ring_read header_at words_from numbered state_ok walk_ok pop_one popped grown pushed longer appended entry_packet fitting front behind commands_in commands_of long_message above sender_valid room_of need_of joined_to pushed_all queued_to queued_of words_check placed_of sent_of row_of packets_from served_in served_of idle_next idled_of sizes_of repeats_of any_words written_off new_sent written_by send_answer write_answer check_of payload_valid written_of bytes_of spliced
history_test = record { as_left = (refl, refl); oldest = refl; newest = refl }

pub ring_test : RingTest
unfolding slot_of ring_stored ring_read
ring_test = record { last = refl; past = refl; stored = refl; read = refl }

pub read_test : ReadTest
unfolding next_of bytes_of
read_test = record { whole = refl; cut = refl; end = refl; past = refl }

pub messages_test : MessagesTest
unfolding type_words divided messages_of message_at walked bytes_of words_of
messages_test = record { cut_last = refl; whole_last = refl; walk = refl; words = (refl, refl) }

pub stream_test : StreamTest
unfolding data_answer receiver_data poll_answer receiver_poll polled_of due_after request_of offered_of receiver_valid valid_of settled_of heard_of taken_of accept_of class_of processed new_of span_of lost_of missing_of moved_of val set_of top_of top_in bottom_of count_trailing_zeros stream_send stream_valid stream_write data_written sent_after send_and_write_answer type_words divided messages_of whole_of slot_of ring_stored ring_read header_at words_from numbered state_ok walk_ok pop_one popped grown pushed longer appended entry_packet fitting front behind commands_in commands_of long_message above sender_valid room_of need_of joined_to pushed_all queued_to queued_of words_check placed_of sent_of row_of packets_from served_in served_of idle_next idled_of sizes_of repeats_of any_words written_off new_sent written_by send_answer write_answer check_of payload_valid written_of bytes_of spliced
stream_test = record { new = refl; heard = refl; asked = refl; request = refl; behind = refl }

pub numbers_test : NumbersTest
unfolding receiver_valid valid_of taken_of val set_of stream_send stream_valid stream_write data_written sent_after send_and_write_answer wants_answer type_words divided messages_of whole_of slot_of ring_stored ring_read header_at words_from numbered state_ok walk_ok pop_one popped grown pushed longer appended entry_packet fitting front behind commands_in commands_of long_message above sender_valid room_of need_of joined_to pushed_all queued_to queued_of words_check placed_of sent_of row_of packets_from served_in served_of idle_next idled_of sizes_of repeats_of any_words written_off new_sent written_by send_answer write_answer check_of payload_valid written_of bytes_of spliced
numbers_test = record { sent = refl; behind = refl; wants = refl; yes = refl; left = refl; asked = refl; due = refl; products = (refl, refl) }

pub layout_test : LayoutTest
unfolding receiver_data receiver_valid valid_of settled_of heard_of accept_of class_of processed new_of span_of lost_of missing_of moved_of val set_of top_of top_in bottom_of count_trailing_zeros check_of start_answer spliced four_in word two_in pair flags_in flags_number held receiver_words receiver_of holds_but_timer receiver_holds receiver_fits waits_of first_in second_in requests_in words_entry within window_fits start_export
layout_test = record { moved = refl; early = refl; due = refl; timed = refl; untimed = refl; requests = refl; window = refl; largest = refl; larger = refl }

pub idle_times : IdleTimes
unfolding dues_from type_words divided messages_of whole_of slot_of ring_stored ring_read header_at words_from numbered state_ok walk_ok pop_one popped grown pushed longer appended entry_packet fitting front behind commands_in commands_of long_message above sender_valid room_of need_of joined_to pushed_all queued_to queued_of words_check placed_of sent_of row_of packets_from served_in served_of idle_next idled_of sizes_of repeats_of any_words written_off new_sent written_by send_answer write_answer check_of payload_valid written_of bytes_of spliced
idle_times = refl
