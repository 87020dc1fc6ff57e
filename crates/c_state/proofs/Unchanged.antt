-- What a call leaves as it was: queueing messages leaves the requests, and a write the receiver where no request is due.
use mathlib.Core.Path.{◌≡◌, refl}
use Rattle.std.proofs.Common.{Result, Ok, Err}
use Rattle.config.specs.declared.refusal.Refusal.{Refusal}
use Rattle.sender.specs.declared.sender.SenderAnswer.{SenderAnswer}
use Rattle.std.specs.Bool.{⊤}
use mathlib.Core.Bool.{false, ◌&&◌}
use mathlib.Core.List.{List}
use Prim.Native.Nat.{ℕ, ◌-◌}
use lib.ListN.{length}
use lib.Dec.{eqb, ltb}
use Rattle.config.specs.Settings.{check_of}
use Rattle.config.specs.declared.settings.StreamConfig.{StreamConfig}
use Rattle.packet.specs.Write.{valid_of as payload_valid}
use Rattle.packet.specs.declared.writer.PayloadWriter.{PayloadWriter}
use Rattle.receiver.specs.Receiver.{not_due, taken_of}
use Rattle.sender.specs.State.{valid_of as sender_valid}
use Rattle.sender.specs.Queueing.{need_of, words_check, queued_of, placed_of, sent_of}
use Rattle.sender.specs.Answers.{send_answer}
use Rattle.sender.specs.declared.sender.Sender.{Sender}
use Rattle.stream.specs.State.{valid_of}
use Rattle.stream.specs.Ends.{send_answer as stream_send}
use Rattle.stream.specs.Writing.{sent_after, data_written, write_answer}
use Rattle.stream.specs.Sending.{after_send, send_and_write_answer}
use Rattle.stream.specs.declared.stream.DataStream.{DataStream}
use Rattle.stream.specs.declared.stream.Wrote.{Wrote}
use Rattle.config.specs.inner.Choices.{by_check}
use Rattle.c_state.proofs.Choices.{by_test, by_entry}

module _ (s : Sender) (ring : List ℕ) where
  abbrev SameQueue : SenderAnswer ⊤ × List ℕ → Type 0
  SameQueue x = x.0.sender.queue ≡ s.queue

  sent_queue : (max : ℕ) (ws : List ℕ) → SameQueue (sent_of s ring max ws)
  unfolding sent_of placed_of queued_of
  sent_queue max ws =
      by_test SameQueue (eqb (length ws) 0) _ _ refl
      (λ _. by_check SameQueue (words_check max ws) _ _ (λ _. refl)
      (λ _. by_test SameQueue (ltb (s.history.size - s.unsent_words) (need_of s ring max ws)) _ _ refl (λ _. refl)))

  pub send_queue : (cfg : StreamConfig) (ws : List ℕ) → SameQueue (send_answer s cfg ring ws)
  unfolding send_answer
  send_queue cfg ws =
      by_entry SameQueue (check_of cfg) (sender_valid s ring) _ _ (λ _. refl) (λ _ _. sent_queue cfg.max_command_words ws)

module _ (d : DataStream) (early : d.receiver.request_due ≡ false) (cfg : StreamConfig) (time : ℕ) (p : PayloadWriter) (b ring : List ℕ) where
  abbrev SameReceiver : Wrote × List ℕ × List ℕ → Type 0
  SameReceiver x = x.0.stream.receiver ≡ d.receiver

  taken_same : taken_of d.receiver cfg p b ≡ (not_due d.receiver p, b)
  unfolding taken_of
  taken_same = rw early

  written_receiver : SameReceiver (data_written d cfg time p b ring)
  unfolding data_written sent_after
  written_receiver = rw taken_same

  pub write_receiver : SameReceiver (write_answer d cfg time p b ring)
  unfolding write_answer
  write_receiver =
      by_entry SameReceiver (check_of cfg) (valid_of d ring && payload_valid p (length b)) _ _ (λ _. refl) (λ _ _. written_receiver)

-- queueing and a write
pub both_receiver : (d : DataStream) → d.receiver.request_due ≡ false → (cfg : StreamConfig) (time : ℕ) (ws : List ℕ) (p : PayloadWriter) (b ring : List ℕ)
    → (send_and_write_answer d cfg time ws p b ring).0.stream.receiver ≡ d.receiver
unfolding send_and_write_answer stream_send
both_receiver d early cfg time ws p b ring = by (stream_send d cfg ring ws).0.answer
  where
    by : (a : Result ⊤ Refusal) → let e = stream_send d cfg ring ws in (after_send a e.0.stream cfg time p b e.1).0.stream.receiver ≡ d.receiver
    by (Err why) = refl
    by (Ok _) = write_receiver _ early cfg time p b _
