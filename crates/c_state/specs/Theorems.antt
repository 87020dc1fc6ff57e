-- Beyond the contracts of single functions: the words that are taken are those of some stream, and no others; a stream that is stored and loaded is the same, and so are words;
-- and every stream that a call can leave has words.
use Rattle.std.specs.Prelude.{◌≡◌, ℕ, ◌<◌, true, List, length, get_or, Some}
use Rattle.command.specs.declared.retransmit.RetransmitRequest.{RetransmitRequest}
use Rattle.history.specs.Queue.{blank}
use Rattle.receiver.specs.declared.receiver.Receiver.{Receiver}
use Rattle.receiver.specs.declared.receiver.RequestTimer.{RequestTimer}
use Rattle.idle.specs.declared.idle.Idle.{Idle}
use Rattle.sender.specs.declared.sender.Sender.{Sender}
use Rattle.config.specs.declared.settings.StreamConfig.{StreamConfig}
use Rattle.packet.specs.declared.writer.PayloadWriter.{PayloadWriter}
use Rattle.command.specs.declared.retransmit.RetransmitError.{RetransmitError}
use Rattle.stream.specs.Answers.{new_answer, reset_answer}
use Rattle.stream.specs.Ends.{send_answer, request_answer, data_answer, error_answer, nak_answer, poll_answer, take_answer}
use Rattle.stream.specs.Writing.{write_answer}
use Rattle.stream.specs.Sending.{send_and_write_answer}
use Rattle.stream.specs.declared.stream.DataStream.{DataStream}
use Rattle.c_state.specs.Receiver.{NarrowReceiver}
use Rattle.c_state.specs.Sender.{NarrowSender}
use Rattle.c_state.specs.Stream.{stream_words, receiver_fits, sender_fits, fits, receiver_in, sender_in, loaded, with_receiver, with_sender, stored}

-- ---- the values that have words
-- fields lie in their types: a queue has 16 places, used or not, and numbers, counts and steps have 16 bits
pub record Sixteen (rs : List RetransmitRequest) : Type 0 where
  pub places : length rs ≡ 16
  pub narrow : (k : ℕ) → ((get_or rs k blank).seq < 65536) × ((get_or rs k blank).count < 65536)

pub record ReceiverTyped (r : Receiver) : Type 0 where
  pub highest : r.window.highest < 65536
  pub timer : (t : RequestTimer) → r.timer ≡ Some t → t.sent < 256
  pub asked : (a : RetransmitRequest) → r.asked ≡ Some a → (a.seq < 65536) × (a.count < 65536)

pub record SenderTyped (s : Sender) : Type 0 where
  pub items : Sixteen s.queue.items
  pub oldest : s.history.oldest < 65536
  pub idle : (i : Idle) → s.idle ≡ Some i → i.step < 65536

-- and figures in their places
abbrev pub ReceiverSmall : Receiver → Type 0
ReceiverSmall r = ReceiverTyped r × NarrowReceiver r

abbrev pub SenderSmall : Sender → Type 0
SenderSmall s = SenderTyped s × NarrowSender s

-- ---- the theorems
-- a value that is stored and loaded is the same value; ws are the words that it is stored into
pub record LoadsBack : Type 0 where
  pub receiver : (ws : List ℕ) (r : Receiver) → length ws ≡ stream_words → ReceiverSmall r → receiver_in (with_receiver ws r) ≡ r
  pub sender : (ws : List ℕ) (s : Sender) → length ws ≡ stream_words → SenderSmall s → sender_in (with_sender ws s) ≡ s
  pub stream : (d : DataStream) → ReceiverSmall d.receiver → SenderSmall d.sender → loaded (stored d) ≡ d

-- words that are taken, loaded and stored are the same words
pub record StoresBack : Type 0 where
  pub receiver : (ws : List ℕ) → receiver_fits ws ≡ true → with_receiver ws (receiver_in ws) ≡ ws
  pub sender : (ws : List ℕ) → sender_fits ws ≡ true → with_sender ws (sender_in ws) ≡ ws
  pub stream : (ws : List ℕ) → fits ws ≡ true → stored (loaded ws) ≡ ws

-- words that are stored are taken
pub record StoredFits : Type 0 where
  pub receiver : (ws : List ℕ) (r : Receiver) → length ws ≡ stream_words → ReceiverSmall r → receiver_fits (with_receiver ws r) ≡ true
  pub sender : (ws : List ℕ) (s : Sender) → length ws ≡ stream_words → SenderSmall s → sender_fits (with_sender ws s) ≡ true
  pub stream : (d : DataStream) → ReceiverSmall d.receiver → SenderSmall d.sender → fits (stored d) ≡ true

-- ---- no figure outgrows its place
abbrev pub NarrowStream : DataStream → Type 0
NarrowStream d = NarrowReceiver d.receiver × NarrowSender d.sender

-- what each call leaves of a stream, refused or not
pub record StaysNarrow (d : DataStream) : Type 0 where
  pub reset : (ring : List ℕ) → NarrowStream (reset_answer d ring).0.stream
  pub send : (cfg : StreamConfig) (ring ws : List ℕ) → NarrowStream (send_answer d cfg ring ws).0.stream
  pub request : (cfg : StreamConfig) (ring : List ℕ) (r : RetransmitRequest) → NarrowStream (request_answer d cfg ring r).stream
  pub hear : (cfg : StreamConfig) (time seq : ℕ) → NarrowStream (data_answer d cfg time seq).stream
  pub error : (e : RetransmitError) → NarrowStream (error_answer d e).stream
  pub nak : NarrowStream (nak_answer d).stream
  pub poll : (cfg : StreamConfig) (time : ℕ) → NarrowStream (poll_answer d cfg time).stream
  pub take : (cfg : StreamConfig) (p : PayloadWriter) (b : List ℕ) → NarrowStream (take_answer d cfg p b).0.stream
  pub write : (cfg : StreamConfig) (time : ℕ) (p : PayloadWriter) (b ring : List ℕ) → NarrowStream (write_answer d cfg time p b ring).0.stream
  pub both : (cfg : StreamConfig) (time : ℕ) (ws : List ℕ) (p : PayloadWriter) (b ring : List ℕ) → NarrowStream (send_and_write_answer d cfg time ws p b ring).0.stream

-- the words have 64 bits
abbrev pub Wide : List ℕ → Type 0
Wide ws = (k : ℕ) → get_or ws k 0 < 18446744073709551616

-- a start is narrow, and so is what is loaded; what is narrow stays so
pub record LeftNarrow : Type 0 where
  pub start : (cfg : StreamConfig) (window words places : ℕ) (ring : List ℕ) → NarrowStream (new_answer cfg window words places ring).0.stream
  pub words : (ws : List ℕ) → Wide ws → NarrowStream (loaded ws) × ((loaded ws).sender.history.oldest < 65536)
  pub calls : (d : DataStream) → NarrowStream d → d.sender.history.oldest < 65536 → StaysNarrow d
