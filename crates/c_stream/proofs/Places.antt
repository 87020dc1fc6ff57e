-- What a call leaves of a stream has its words: no figure is wider than its place.
use mathlib.Core.Path.{◌≡◌, sym, subst}
use Rattle.std.proofs.Common.{Option}
use Rattle.receiver.specs.declared.receiver.ReceiverAnswer.{ReceiverAnswer}
use Rattle.receiver.specs.declared.receiver.StreamEvent.{StreamEvent}
use Rattle.sender.specs.declared.sender.RequestOutcome.{RequestOutcome}
use Rattle.sender.specs.declared.sender.SenderAnswer.{SenderAnswer}
use Rattle.stream.specs.declared.stream.StreamAnswer.{StreamAnswer}
use Rattle.std.specs.Bool.{⊤}
use mathlib.Core.List.{List}
use Prim.Native.Nat.{ℕ}
use Rattle.config.specs.declared.settings.StreamConfig.{StreamConfig}
use Rattle.packet.specs.declared.writer.PayloadWriter.{PayloadWriter}
use Rattle.command.specs.declared.retransmit.RetransmitRequest.{RetransmitRequest}
use Rattle.command.specs.declared.retransmit.RetransmitError.{RetransmitError}
use Rattle.receiver.specs.Answers as receiver
use Rattle.receiver.specs.declared.receiver.Receiver.{Receiver}
use Rattle.receiver.specs.declared.receiver.RequestWritten.{RequestWritten as Taken}
use Rattle.sender.specs.Answers as sender
use Rattle.sender.specs.declared.sender.Sender.{Sender}
use Rattle.stream.specs.Answers.{new_answer, reset_answer}
use Rattle.stream.specs.Ends.{send_answer, request_answer, error_answer, nak_answer, take_answer}
use Rattle.stream.specs.Writing.{write_answer}
use Rattle.stream.specs.declared.stream.DataStream.{DataStream}
use Rattle.stream.specs.declared.stream.Wrote.{Wrote}
use Rattle.c_state.specs.Receiver.{NarrowReceiver}
use Rattle.c_state.specs.Sender.{NarrowSender}
use Rattle.c_state.specs.Stream.{receiver_in, sender_in, loaded}
use Rattle.c_state.specs.Theorems.{Wide, NarrowStream, StaysNarrow}
use Rattle.c_state.proofs.Narrow.{start_narrow, words_narrow, stays_narrow}

-- ---- a start
pub new_narrow : (cfg : StreamConfig) (window words places : ℕ) (ring : List ℕ) (e : StreamAnswer ⊤) (after : List ℕ) → (e, after) ≡ new_answer cfg window words places ring → NarrowStream e.stream
new_narrow cfg window words places ring e after q = subst (λ (x : StreamAnswer ⊤ × List ℕ). NarrowStream x.0.stream) (sym q) (start_narrow cfg window words places ring)

module _ (st : List ℕ) (wide : Wide st) where
  stays : StaysNarrow (loaded st)
  stays = let w = words_narrow st wide in stays_narrow (loaded st) w.0 w.1

  -- ---- the receiver's calls
  module _ (r : Receiver) (from : r ≡ receiver_in st) where
    of_receiver : (P : Receiver → Type 0) → P (receiver_in st) → P r
    of_receiver P h = subst P (sym from) h

    pub error_narrow : (err : RetransmitError) (e : ReceiverAnswer (Option StreamEvent)) → e ≡ receiver.error_answer r err → NarrowReceiver e.receiver
    unfolding error_answer loaded
    error_narrow err e q =
        subst (λ (x : ReceiverAnswer (Option StreamEvent)). NarrowReceiver x.receiver) (sym q)
        (of_receiver (λ (x : Receiver). NarrowReceiver (receiver.error_answer x err).receiver) (stays.error err).0)

    pub nak_narrow : (e : ReceiverAnswer (Option StreamEvent)) → e ≡ receiver.nak_answer r → NarrowReceiver e.receiver
    unfolding nak_answer loaded
    nak_narrow e q =
        subst (λ (x : ReceiverAnswer (Option StreamEvent)). NarrowReceiver x.receiver) (sym q)
        (of_receiver (λ (x : Receiver). NarrowReceiver (receiver.nak_answer x).receiver) stays.nak.0)

    pub take_narrow : (cfg : StreamConfig) (p : PayloadWriter) (b : List ℕ) (e : Taken) (after : List ℕ) → (e, after) ≡ receiver.take_answer r cfg p b → NarrowReceiver e.receiver
    unfolding take_answer loaded
    take_narrow cfg p b e after q =
        subst (λ (x : Taken × List ℕ). NarrowReceiver x.0.receiver) (sym q)
        (of_receiver (λ (x : Receiver). NarrowReceiver (receiver.take_answer x cfg p b).0.receiver) (stays.take cfg p b).0)

  -- ---- the sender's calls
  module _ (s : Sender) (from : s ≡ sender_in st) where
    of_sender : (P : Sender → Type 0) → P (sender_in st) → P s
    of_sender P h = subst P (sym from) h

    pub send_narrow : (cfg : StreamConfig) (ring ws : List ℕ) (e : SenderAnswer ⊤) (after : List ℕ) → (e, after) ≡ sender.send_answer s cfg ring ws → NarrowSender e.sender
    unfolding send_answer loaded
    send_narrow cfg ring ws e after q =
        subst (λ (x : SenderAnswer ⊤ × List ℕ). NarrowSender x.0.sender) (sym q)
        (of_sender (λ (x : Sender). NarrowSender (sender.send_answer x cfg ring ws).0.sender) (stays.send cfg ring ws).1)

    pub request_narrow : (cfg : StreamConfig) (ring : List ℕ) (a : RetransmitRequest) (e : SenderAnswer RequestOutcome) → e ≡ sender.request_answer s cfg ring a → NarrowSender e.sender
    unfolding request_answer loaded
    request_narrow cfg ring a e q =
        subst (λ (x : SenderAnswer RequestOutcome). NarrowSender x.sender) (sym q)
        (of_sender (λ (x : Sender). NarrowSender (sender.request_answer x cfg ring a).sender) (stays.request cfg ring a).1)

  -- ---- calls of both ends
  module _ (d : DataStream) (from : d ≡ loaded st) where
    of_stream_lem : (P : DataStream → Type 0) → P (loaded st) → P d
    of_stream_lem P h = subst P (sym from) h

    pub reset_narrow : (ring : List ℕ) (e : StreamAnswer ⊤) (after : List ℕ) → (e, after) ≡ reset_answer d ring → NarrowStream e.stream
    reset_narrow ring e after q =
        subst (λ (x : StreamAnswer ⊤ × List ℕ). NarrowStream x.0.stream) (sym q)
        (of_stream_lem (λ (x : DataStream). NarrowStream (reset_answer x ring).0.stream) (stays.reset ring))

    pub write_narrow : (cfg : StreamConfig) (time : ℕ) (p : PayloadWriter) (b ring : List ℕ) (e : Wrote) (bytes after : List ℕ)
        → (e, bytes, after) ≡ write_answer d cfg time p b ring → NarrowStream e.stream
    write_narrow cfg time p b ring e bytes after q =
        subst (λ (x : Wrote × List ℕ × List ℕ). NarrowStream x.0.stream) (sym q)
        (of_stream_lem (λ (x : DataStream). NarrowStream (write_answer x cfg time p b ring).0.stream) (stays.write cfg time p b ring))
