-- 01, "The runs of demand 3": a stream's call counts as those calls of its ends that it makes. The calls of one end: its answer, refusals included, and the
-- other end as it was.
use Rattle.std.specs.Prelude.{ℕ, List, Option, ⊤}
use Rattle.receiver.specs.declared.receiver.Delivery.{Delivery}
use Rattle.receiver.specs.declared.receiver.ReceiverAnswer.{ReceiverAnswer}
use Rattle.receiver.specs.declared.receiver.StreamEvent.{StreamEvent}
use Rattle.sender.specs.declared.sender.RequestOutcome.{RequestOutcome}
use Rattle.sender.specs.declared.sender.SenderAnswer.{SenderAnswer}
use Rattle.stream.specs.declared.stream.StreamAnswer.{StreamAnswer}
use Rattle.config.specs.declared.settings.StreamConfig.{StreamConfig}
use Rattle.packet.specs.declared.writer.PayloadWriter.{PayloadWriter}
use Rattle.command.specs.declared.retransmit.RetransmitRequest.{RetransmitRequest}
use Rattle.command.specs.declared.retransmit.RetransmitError.{RetransmitError}
use Rattle.receiver.specs.Answers as receiver
use Rattle.sender.specs.Answers as sender
use Rattle.sender.specs.declared.sender.Sender.{Sender}
use Rattle.stream.specs.State.{with_sender, with_receiver}
use Rattle.stream.specs.declared.stream.DataStream.{DataStream}
use Rattle.stream.specs.declared.stream.RequestWritten.{RequestWritten}

-- one end's answer, and the other end as it was
abbrev pub sent_by : {A : Type 0} → DataStream → SenderAnswer A → StreamAnswer A
sent_by s e = record { stream = with_sender s e.sender; answer = e.answer }

abbrev pub heard_by : {A : Type 0} → DataStream → ReceiverAnswer A → StreamAnswer A
heard_by s e = record { stream = with_receiver s e.receiver; answer = e.answer }

-- ---- the sender's
unfoldable pub send_answer : DataStream → StreamConfig → List ℕ → List ℕ → StreamAnswer ⊤ × List ℕ
send_answer s cfg ring ws =
    let e = sender.send_answer s.sender cfg ring ws in
    (record { stream = with_sender s e.0.sender; answer = e.0.answer }, e.1)

unfoldable pub request_answer : DataStream → StreamConfig → List ℕ → RetransmitRequest → StreamAnswer RequestOutcome
request_answer s cfg ring r =
    let e = sender.request_answer s.sender cfg ring r in
    record { stream = with_sender s e.sender; answer = e.answer }

-- ---- the receiver's
unfoldable pub data_answer : DataStream → StreamConfig → ℕ → ℕ → StreamAnswer Delivery
data_answer s cfg time seq =
    let e = receiver.data_answer s.receiver cfg time seq in
    record { stream = with_receiver s e.receiver; answer = e.answer }

abbrev pub told_by : Sender → ReceiverAnswer (Option StreamEvent) → StreamAnswer (Option StreamEvent)
told_by s e = record { stream = record { sender = s; receiver = e.receiver }; answer = e.answer }

unfoldable pub error_answer : DataStream → RetransmitError → StreamAnswer (Option StreamEvent)
error_answer s err = told_by s.sender (receiver.error_answer s.receiver err)

unfoldable pub nak_answer : DataStream → StreamAnswer (Option StreamEvent)
nak_answer s = told_by s.sender (receiver.nak_answer s.receiver)

unfoldable pub poll_answer : DataStream → StreamConfig → ℕ → StreamAnswer (Option StreamEvent)
poll_answer s cfg time = told_by s.sender (receiver.poll_answer s.receiver cfg time)

-- the receiver's part of a write
unfoldable pub take_answer : DataStream → StreamConfig → PayloadWriter → List ℕ → RequestWritten × List ℕ
take_answer s cfg p b =
    let e = receiver.take_answer s.receiver cfg p b in
    (record { stream = with_receiver s e.0.receiver; payload = e.0.payload; answer = e.0.answer }, e.1)
