-- A payload that is heard in one call and in two, computed.
use mathlib.Core.Path.{refl}
use Rattle.config.specs.Settings.{check_of}
use Rattle.c_words.specs.Entry.{words_entry}
use Rattle.c_words.specs.Settings.{settings_check}
use Rattle.c_words.specs.Limits.{within}
use Rattle.c_state.specs.Pack.{four_in, word, two_in, pair, flags_in, flags_number, held}
use Rattle.c_state.specs.Receiver.{receiver_words, receiver_of, holds_but_timer, receiver_holds}
use Rattle.c_state.specs.Sender.{figure_words, request_words, sender_words, first_in, second_in, requests_in, sender_of, sender_holds}
use Rattle.c_state.specs.Stream.{receiver_fits, sender_fits, fits, loaded, stored}
use Rattle.packet.specs.Bytes.{words_of, spliced}
use Rattle.packet.specs.Read.{signed, next_of, body_of}
use Rattle.command.specs.Parse.{parsed_of}
use Rattle.window.specs.Window.{valid_of, missing_of, span_of}
use Rattle.window.specs.Arrival.{class_of, moved_of, lost_of, new_of, accept_of}
use Rattle.window.specs.Set.{val, set_of, top_in, top_of, bottom_of}
use Rattle.receiver.specs.Receiver.{valid_of as receiver_valid_of, settled_of, heard_of}
use Rattle.receiver.specs.Answers.{data_answer}
use Rattle.history.specs.Ring.{slot_of, ring_read}
use Rattle.history.specs.Headers.{numbered, words_from}
use Rattle.history.specs.State.{walk_ok, state_ok}
use Rattle.sender.specs.State.{valid_of as sender_valid_of}
use Rattle.sender.specs.Requests.{requested_of}
use Rattle.sender.specs.Answers.{request_answer}
use Rattle.stream.specs.Ends.{request_answer as stream_request_answer, data_answer as stream_data_answer}
use Rattle.c_hearing.specs.Given.{data_given, request_given}
use Rattle.c_hearing.specs.Walk.{answered, whole_turn, hear_from}
use Rattle.c_hearing.specs.Exports.{opened_at, hear_export}
use Rattle.c_hearing.specs.Theorems.{HearsBoth}

pub hears_both : HearsBoth
unfolding check_of words_entry settings_check within four_in word two_in pair flags_in flags_number held receiver_words receiver_of receiver_holds holds_but_timer figure_words request_words sender_words first_in second_in requests_in sender_of sender_holds receiver_fits sender_fits fits loaded stored words_of spliced signed next_of body_of parsed_of valid_of missing_of span_of class_of moved_of lost_of new_of accept_of val set_of top_in top_of bottom_of receiver_valid_of settled_of heard_of data_answer slot_of ring_read walk_ok state_ok sender_valid_of requested_of request_answer stream_request_answer stream_data_answer data_given request_given answered whole_turn hear_from opened_at hear_export numbered words_from
hears_both = record { both = (refl, refl); first = (refl, refl); then = (refl, refl) }
