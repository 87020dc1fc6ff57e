-- Performances that the old wording calls equal, since their messages are, and that 02, 13/14 tells apart, each pair by one thing alone. A and B are messages of one word:
--   together      A B         one command                apart       A, B      two: the division differs
--   idle_between  A, -, B     after silence between      idle_after  A, B, -   after silence behind: the Zero Length Command stands elsewhere
--   alone         A           no silence                 idle        A, -      after silence: the Zero Length Command is there or not
use Prim.Native.Nat.{ℕ}
use mathlib.Core.Path.{◌≡◌, refl, ap}
use mathlib.Core.List.{List, [], ◌∷◌, ◌++◌}
use native.Mathlib.Omega.{arith}
use lib.ListN.{length}
use Rattle.config.specs.Settings.{check_of}
use Rattle.packet.specs.Bytes.{bytes_of, words_of, spliced}
use Rattle.packet.specs.Read.{signed, items_from, items_of}
use Rattle.packet.specs.Write.{opened_of, valid_of as payload_valid, written_of}
use Rattle.command.specs.Messages.{type_words, divided, messages_of, whole_of}
use Rattle.history.specs.Ring.{slot_of, ring_stored, ring_read}
use Rattle.history.specs.Headers.{header_at, words_from, numbered}
use Rattle.history.specs.State.{state_ok, walk_ok}
use Rattle.history.specs.Push.{pop_one, popped, grown, pushed, longer, appended}
use Rattle.history.specs.Written.{entry_packet}
use Rattle.idle.specs.Schedule.{idle_next}
use Rattle.rows.specs.Rows.{row_of, packets_from, sizes_of, any_words}
use Rattle.rows.specs.Choice.{repeats_of}
use Rattle.sender.specs.Answers.{new_answer, send_answer}
use Rattle.writing.specs.Answers.{write_answer}
use Rattle.fronts.specs.Commands.{fitting, front, behind, commands_in, commands_of, longer as long_message, above}
use Rattle.sender.specs.State.{valid_of}
use Rattle.sender.specs.Queueing.{room_of, need_of, joined_to, pushed_all, queued_to, queued_of, words_check, placed_of, sent_of}
use Rattle.writing.specs.Writing.{served_in, served_of, idled_of, written_off, new_of, written_by}
use Rattle.delivery.specs.Commands.{data_in, wholes_in, data_of}
use Rattle.delivery.specs.Positions.{opens}
use Rattle.delivery.specs.Console.{Call, open_payload, queue_words, write_into, Entry, step_of, log_from, fresh_console, accepted, positions}
use Rattle.delivery.specs.Performance.{messages, division, zero_length}
use Rattle.delivery.proofs.Example.{settings, A, B, zeros}

-- ---- the calls: one payload, no repeats, an idle command due 100 ms after the last command with words

abbrev opened : Call
opened = open_payload 1400 (zeros 28)

abbrev queue : List ℕ → Call
queue ws = queue_words (settings 0) ws

abbrev write : ℕ → Call
write time = write_into 0 (settings 0) time

abbrev together : List Call
together = opened ∷ queue A ∷ queue B ∷ write 0 ∷ []

abbrev apart : List Call
apart = opened ∷ queue A ∷ write 0 ∷ queue B ∷ write 5 ∷ []

abbrev idle_between : List Call
idle_between = opened ∷ queue A ∷ write 0 ∷ write 100 ∷ queue B ∷ write 110 ∷ []

abbrev idle_after : List Call
idle_after = opened ∷ queue A ∷ write 0 ∷ queue B ∷ write 5 ∷ write 105 ∷ []

abbrev alone : List Call
alone = opened ∷ queue A ∷ write 0 ∷ []

abbrev idle : List Call
idle = opened ∷ queue A ∷ write 0 ∷ write 100 ∷ []

-- ---- what they leave

abbrev log : List Call → List Entry
log calls = log_from (fresh_console 65 4 (zeros 65)) [] calls

-- a log's messages and positions
abbrev Performed : List Call → List ℕ → List (List ℕ) → Type 0
Performed calls ws C = (accepted (log calls) ≡ ws) × (positions (log calls) ≡ C)

performed :
    Performed together (A ++ B) ((A ++ B) ∷ []) × Performed apart (A ++ B) (A ∷ B ∷ [])
    × Performed idle_between (A ++ B) (A ∷ [] ∷ B ∷ []) × Performed idle_after (A ++ B) (A ∷ B ∷ [] ∷ [])
    × Performed alone A (A ∷ []) × Performed idle A (A ∷ [] ∷ [])
unfolding log_from step_of new_answer opened_of type_words divided messages_of whole_of slot_of ring_stored ring_read header_at words_from numbered state_ok walk_ok pop_one popped grown pushed longer appended entry_packet fitting front behind commands_in commands_of long_message above valid_of room_of need_of joined_to pushed_all queued_to queued_of words_check placed_of sent_of row_of packets_from served_in served_of idle_next idled_of sizes_of repeats_of any_words written_off new_of written_by send_answer write_answer check_of payload_valid written_of bytes_of spliced data_of data_in wholes_in items_of items_from signed words_of opens
performed = ((refl, refl), (refl, refl), (refl, refl), (refl, refl), (refl, refl), (refl, refl))

-- ---- told apart by one thing alone

pub record ByDivision (t s : List Entry) : Type 0 where
  pub same_messages : messages t ≡ messages s
  pub other_division : division t ≡ division s → ⊥
  pub same_zero_length : zero_length t ≡ zero_length s

pub record ByZeroLength (t s : List Entry) : Type 0 where
  pub same_messages : messages t ≡ messages s
  pub same_division : division t ≡ division s
  pub other_zero_length : zero_length t ≡ zero_length s → ⊥

pub told_by_division : ByDivision (log together) (log apart)
told_by_division = record {
  same_messages = rw (performed.0.0, performed.1.0);
  other_division = rw (performed.0.1, performed.1.1) (λ e. let n : ◌≡◌ {A = ℕ} 1 2 = ap length e in omega arith);
  same_zero_length = rw (performed.0.1, performed.1.1);
}

pub elsewhere : ByZeroLength (log idle_between) (log idle_after)
elsewhere = record {
  same_messages = rw (performed.2.0, performed.3.0);
  same_division = rw (performed.2.1, performed.3.1);
  other_zero_length = rw (performed.2.1, performed.3.1) (λ e. let n : ◌≡◌ {A = ℕ} 1 2 = cc in omega arith);
}

pub there_or_not : ByZeroLength (log alone) (log idle)
there_or_not = record {
  same_messages = rw (performed.4.0, performed.5.0);
  same_division = rw (performed.4.1, performed.5.1);
  other_zero_length = rw (performed.4.1, performed.5.1) (λ e. let n : ◌≡◌ {A = ℕ} 0 1 = ap length e in omega arith);
}
