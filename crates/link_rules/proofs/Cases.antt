-- The runs of specs/Cases.antt, computed.
use mathlib.Core.Path.{refl}
use lib.Count.{count_trailing_zeros}
use Rattle.config.specs.Settings.{check_of}
use Rattle.packet.specs.Bytes.{bytes_of, words_of, spliced}
use Rattle.packet.specs.Read.{signed, items_from, items_of}
use Rattle.packet.specs.Write.{valid_of as payload_valid, written_of}
use Rattle.command.specs.Messages.{type_words, divided, messages_of, whole_of, words_in}
use Rattle.command.specs.Parse.{parsed_of}
use Rattle.command.specs.Write.{error_written}
use Rattle.history.specs.Ring.{slot_of, ring_stored, ring_read}
use Rattle.history.specs.Headers.{header_at, words_from, numbered}
use Rattle.history.specs.State.{state_ok, walk_ok}
use Rattle.history.specs.Push.{pop_one, popped, grown, pushed, longer, appended}
use Rattle.history.specs.Queue.{request, requests, asks, push_answer}
use Rattle.history.specs.Written.{entry_packet}
use Rattle.window.specs.Set.{val, set_of, top_in, top_of, bottom_of}
use Rattle.window.specs.Window.{valid_of as window_valid, processed, missing_of, span_of, request_of}
use Rattle.window.specs.Arrival.{class_of, moved_of, lost_of, new_of, accept_of}
use Rattle.window.specs.Marking.{hit_at, hits_of, mark_of}
use Rattle.idle.specs.Schedule.{idle_next}
use Rattle.rows.specs.Rows.{row_of, packets_from, sizes_of, any_words}
use Rattle.rows.specs.Choice.{repeats_of}
use Rattle.receiver.specs.Receiver.{valid_of as receiver_valid, due_after, settled_of, heard_of, gave_up, polled_of, error_of, offered_of, taken_of}
use Rattle.receiver.specs.Answers as receiver
use Rattle.sender.specs.Answers as sender
use Rattle.fronts.specs.Commands.{fitting, front, behind, commands_in, commands_of, longer as long_message, above}
use Rattle.sender.specs.State.{valid_of as sender_valid}
use Rattle.sender.specs.Queueing.{room_of, need_of, joined_to, pushed_all, queued_to, queued_of, words_check, placed_of, sent_of}
use Rattle.sender.specs.Requests.{requested_of}
use Rattle.writing.specs.Writing.{served_in, served_of, idled_of, written_off, new_of as new_written, written_by}
use Rattle.stream.specs.State.{valid_of as stream_valid}
use Rattle.stream.specs.Ends.{send_answer, request_answer, data_answer, error_answer, poll_answer}
use Rattle.stream.specs.Writing.{sent_after, data_written, write_answer}
use Rattle.load.specs.Load.{next, count_of}
use Rattle.link_rules.specs.Arriving.{gap_in, arrived_of, handed_in, losses_in, error_in}
use Rattle.link_rules.specs.Link.{calls_of, step_of, run_of, run_answer}
use Rattle.link_rules.specs.Cases.{Runs}

pub runs : Runs
unfolding run_answer run_of step_of calls_of gap_in arrived_of handed_in losses_in error_in next count_of sent_after data_written write_answer send_answer request_answer data_answer error_answer poll_answer stream_valid row_of packets_from served_in served_of idle_next idled_of sizes_of repeats_of any_words written_off new_written written_by requested_of room_of need_of joined_to pushed_all queued_to queued_of words_check placed_of sent_of sender_valid fitting front behind commands_in commands_of long_message above sender.send_answer sender.request_answer receiver.data_answer receiver.poll_answer receiver.error_answer receiver_valid due_after settled_of heard_of gave_up polled_of error_of offered_of taken_of hit_at hits_of mark_of class_of moved_of lost_of new_of accept_of window_valid processed missing_of span_of request_of val set_of top_in top_of bottom_of entry_packet request requests asks push_answer pop_one popped grown pushed longer appended state_ok walk_ok header_at words_from numbered slot_of ring_stored ring_read error_written parsed_of type_words divided messages_of whole_of words_in payload_valid written_of signed items_from items_of bytes_of words_of spliced check_of count_trailing_zeros
runs = record {
  none = refl;
  repeats = refl;
  late = refl;
  error = refl;
  asks = refl;
  bound = refl;
  gap = refl;
  no_gaps = (refl, refl, refl, refl, refl, refl);
  before = refl;
  then = refl;
}
