-- 01, "Queue words" and "Write the stream", in one call: queueing, and where the words are accepted a write of what that leaves, at the time given.
use Rattle.std.specs.Prelude.{ℕ, ◌<◌, ◌≡◌, true, List, Result, Ok, Err, ⊤}
use Rattle.config.specs.Sequence.{turn}
use Rattle.config.specs.Settings.{check_of}
use Rattle.config.specs.declared.refusal.Refusal.{Refusal}
use Rattle.config.specs.declared.settings.StreamConfig.{StreamConfig}
use Rattle.packet.specs.declared.writer.PayloadWriter.{PayloadWriter}
use Rattle.receiver.specs.Receiver.{valid_of as receiver_valid}
use Rattle.sender.specs.State.{valid_of as sender_valid}
use Rattle.stream.specs.State.{valid_of}
use Rattle.stream.specs.Ends.{send_answer}
use Rattle.stream.specs.Writing.{write_answer}
use Rattle.stream.specs.declared.stream.DataStream.{DataStream}
use Rattle.stream.specs.declared.stream.Wrote.{Wrote}
use Rattle.stream.specs.declared.sending.SendAndWrite.TheVariants.{NotQueued, Queued}
use Rattle.stream.specs.declared.sending.SentAndWrote.{SentAndWrote}

abbrev pub not_queued_of : DataStream → PayloadWriter → Refusal → SentAndWrote
not_queued_of s p why = record { stream = s; payload = p; answer = NotQueued why }

-- the stream with the payload, the payload's bytes and the lent history
abbrev pub not_queued : DataStream → PayloadWriter → List ℕ → List ℕ → Refusal → SentAndWrote × List ℕ × List ℕ
not_queued s p b ring why = (record { stream = s; payload = p; answer = NotQueued why }, b, ring)

abbrev pub queued_and : Wrote × List ℕ × List ℕ → SentAndWrote × List ℕ × List ℕ
queued_and w = (record { stream = w.0.stream; payload = w.0.payload; answer = Queued w.0.answer }, w.1, w.2)

-- words that are refused end the call; words that are accepted stay queued, also where the write is refused
abbrev pub after_send : Result ⊤ Refusal → DataStream → StreamConfig → ℕ → PayloadWriter → List ℕ → List ℕ → SentAndWrote × List ℕ × List ℕ
after_send (Err why) s cfg time p b ring = not_queued s p b ring why
after_send (Ok _) s cfg time p b ring = queued_and (write_answer s cfg time p b ring)

unfoldable pub send_and_write_answer : DataStream → StreamConfig → ℕ → List ℕ → PayloadWriter → List ℕ → List ℕ → SentAndWrote × List ℕ × List ℕ
send_and_write_answer s cfg time ws p b ring =
    let e = send_answer s cfg ring ws in
    after_send e.0.answer e.0.stream cfg time p b e.1

-- ---- the call is those two, and the second one's tests of what the first has tested are idle
-- After words were accepted the settings pass, and so does the sender's state: the state test is the receiver's, which queueing leaves as it was.
pub record TestsIdle (s : DataStream) (cfg : StreamConfig) (ring ws : List ℕ) : Type 0 where
  pub settings : check_of cfg ≡ Ok tt
  pub sender : let e = send_answer s cfg ring ws in sender_valid e.0.stream.sender e.1 ≡ true
  pub both : let e = send_answer s cfg ring ws in valid_of e.0.stream e.1 ≡ receiver_valid s.receiver

pub record TwoCalls (s : DataStream) (cfg : StreamConfig) (ring ws : List ℕ) : Type 0 where
  -- words that are refused: nothing changes and nothing is written
  pub refused : (why : Refusal) → (send_answer s cfg ring ws).0.answer ≡ Err why
      → (time : ℕ) (p : PayloadWriter) (b : List ℕ) → send_and_write_answer s cfg time ws p b ring ≡ not_queued s p b ring why
  -- else the write's answer, state, payload, bytes and history, from the state and the history that queueing leaves
  pub accepted : (send_answer s cfg ring ws).0.answer ≡ Ok tt
      → (time : ℕ) (p : PayloadWriter) (b : List ℕ) → let e = send_answer s cfg ring ws in
      send_and_write_answer s cfg time ws p b ring ≡ queued_and (write_answer e.0.stream cfg time p b e.1)
  pub idle : (send_answer s cfg ring ws).0.answer ≡ Ok tt → TestsIdle s cfg ring ws

-- of any stream whose oldest number is a number, which 16 bits hold
abbrev pub SendAndWriteCallsBoth : Type 0
SendAndWriteCallsBoth =
    (s : DataStream) (cfg : StreamConfig) (ring ws : List ℕ) → s.sender.history.oldest < turn → TwoCalls s cfg ring ws
