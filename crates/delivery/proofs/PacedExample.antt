-- What our sender does where a history or a payload has too little room for R + 1 commands: repeats have left, or are dropped, and the payload holds fewer.
use Prim.Native.Nat.{ℕ, ◌*◌}
use mathlib.Core.Path.{◌≡◌, refl}
use mathlib.Core.List.{List, [], ◌∷◌}
use lib.ListN.{replicate}
use Rattle.config.specs.Settings.{check_of}
use Rattle.packet.specs.Bytes.{bytes_of, words_of, spliced}
use Rattle.packet.specs.Read.{signed, items_from, items_of}
use Rattle.packet.specs.Write.{opened_of, valid_of as payload_valid, written_of}
use Rattle.command.specs.Messages.{type_words, divided, messages_of, whole_of}
use Rattle.history.specs.Ring.{slot_of, ring_stored, ring_read}
use Rattle.history.specs.Headers.{header_at, words_from, numbered}
use Rattle.history.specs.State.{state_ok, walk_ok}
use Rattle.history.specs.Push.{pop_one, popped, grown, pushed, longer, appended}
use Rattle.history.specs.Written.{entry_packet}
use Rattle.idle.specs.Schedule.{idle_next}
use Rattle.rows.specs.Rows.{row_of, packets_from, sizes_of, any_words}
use Rattle.rows.specs.Choice.{repeats_of}
use Rattle.sender.specs.Answers.{new_answer, send_answer}
use Rattle.writing.specs.Answers.{write_answer}
use Rattle.fronts.specs.Commands.{fitting, front, behind, commands_in, commands_of, longer as long_message, above}
use Rattle.sender.specs.State.{valid_of}
use Rattle.sender.specs.Queueing.{room_of, need_of, joined_to, pushed_all, queued_to, queued_of, words_check, placed_of, sent_of}
use Rattle.writing.specs.Writing.{served_in, served_of, idled_of, written_off, new_of, written_by}
use Rattle.delivery.specs.Commands.{data_in, wholes_in, data_of}
use Rattle.delivery.specs.Console.{Entry, queued, wrote, stood, noted, held, step_of, log_from, fresh_console}
use Rattle.delivery.specs.Paced.{payload_need, history_need, Round, rounds_from}
use Rattle.delivery.proofs.Example.{settings, zeros}

-- data commands in the payload that was written last
abbrev last_held : List Entry → ℕ
last_held [] = 0
last_held (wrote k u v a ∷ t) = held v
last_held (queued cfg ws a ∷ t) = last_held t
last_held (stood k v ∷ t) = last_held t
last_held (noted ∷ t) = last_held t

-- commands of s words, R repeats, into payloads of a limit
abbrev round : ℕ → ℕ → ℕ → ℕ → Round
round R s limit i = record { limit = limit; buffer = zeros limit; settings = settings R; words = replicate s 0x20903C40; time = i * 10 }

abbrev sent : List Round → List Entry
sent rs = log_from (fresh_console 65 1 (zeros 65)) [] (rounds_from 0 rs)

-- ---- a history of 65 words, R 2, commands of 40 words: payload 1 should hold 2 commands and holds 1

left : last_held (sent (round 2 40 332 0 ∷ round 2 40 332 1 ∷ [])) ≡ 1
unfolding log_from step_of new_answer opened_of type_words divided messages_of whole_of slot_of ring_stored ring_read header_at words_from numbered state_ok walk_ok pop_one popped grown pushed longer appended entry_packet fitting front behind commands_in commands_of long_message above valid_of room_of need_of joined_to pushed_all queued_to queued_of words_check placed_of sent_of row_of packets_from served_in served_of idle_next idled_of sizes_of repeats_of any_words written_off new_of written_by send_answer write_answer check_of payload_valid written_of bytes_of spliced data_of data_in wholes_in items_of items_from signed words_of
left = refl

-- ---- R 1, commands of one word, payloads of 19 bytes, one short of 20: payload 1 should hold 2 commands and holds 1

dropped : last_held (sent (round 1 1 19 0 ∷ round 1 1 19 1 ∷ [])) ≡ 1
unfolding log_from step_of new_answer opened_of type_words divided messages_of whole_of slot_of ring_stored ring_read header_at words_from numbered state_ok walk_ok pop_one popped grown pushed longer appended entry_packet fitting front behind commands_in commands_of long_message above valid_of room_of need_of joined_to pushed_all queued_to queued_of words_check placed_of sent_of row_of packets_from served_in served_of idle_next idled_of sizes_of repeats_of any_words written_off new_of written_by send_answer write_answer check_of payload_valid written_of bytes_of spliced data_of data_in wholes_in items_of items_from signed words_of
dropped = refl

-- ---- what each would need

needs : (history_need 2 40 ≡ 123) × (payload_need 1 1 ≡ 20) × (payload_need 2 64 ≡ 784) × (history_need 2 64 ≡ 195) × (payload_need 4 64 ≡ 1304) × (history_need 4 64 ≡ 325)
needs = (refl, refl, refl, refl, refl, refl)
