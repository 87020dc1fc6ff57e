-- 01, "The runs of demand 3": lists of calls on a fresh stream, refused ones included, each taking what the last left.
use Rattle.std.specs.Prelude.{ℕ, ◌<◌, List, [], ◌∷◌, Bool, Option, Result, ⊤}
use Rattle.config.specs.declared.refusal.Refusal.{Refusal}
use Rattle.writing.specs.declared.writing.Written.{Written}
use Rattle.config.specs.Sequence.{turn}
use Rattle.config.specs.declared.settings.StreamConfig.{StreamConfig}
use Rattle.packet.specs.Layout.{Words32}
use Rattle.packet.specs.declared.writer.PayloadWriter.{PayloadWriter}
use Rattle.command.specs.declared.retransmit.RetransmitRequest.{RetransmitRequest}
use Rattle.command.specs.declared.retransmit.RetransmitError.{RetransmitError}
use Rattle.receiver_log.specs.Calls as Receiver
use Rattle.sender_log.specs.Calls.{TypedConfig}
use Rattle.sender_log.specs.Calls as Sender
use Rattle.stream.specs.Ends.{send_answer, request_answer, data_answer, error_answer, nak_answer, poll_answer, take_answer}
use Rattle.stream.specs.Answers.{new_answer, reset_answer, deadline_answer, wants_answer}
use Rattle.stream.specs.Writing.{write_answer}
use Rattle.stream.specs.declared.stream.DataStream.{DataStream}

-- a call of `DataStream`, each argument free
pub data Call : Type 0 where
  -- settings, words
  send_ump : StreamConfig → List ℕ → Call
  -- settings, request
  on_retransmit_request : StreamConfig → RetransmitRequest → Call
  -- settings, time, number, words
  on_ump_data : StreamConfig → ℕ → ℕ → List ℕ → Call
  on_retransmit_error : RetransmitError → Call
  on_retransmit_nak : Call
  -- settings, time
  poll : StreamConfig → ℕ → Call
  -- settings, payload, buffer
  write_request : StreamConfig → PayloadWriter → List ℕ → Call
  -- settings, time, payload, buffer
  write_data : StreamConfig → ℕ → PayloadWriter → List ℕ → Call
  next_deadline : Call
  -- time
  wants_write : ℕ → Call
  reset : Call

-- a call with its answer
pub data Entry : Type 0 where
  -- of one end: as that end's log has it
  by_sender : Sender.Entry → Entry
  by_receiver : Receiver.Entry → Entry
  -- of a write also the payload and the buffer after it
  wrote : StreamConfig → ℕ → PayloadWriter → List ℕ → Result Written Refusal → PayloadWriter → List ℕ → Entry
  deadline : Result (Option ℕ) Refusal → Entry
  wants : ℕ → Result Bool Refusal → Entry
  was_reset : Result ⊤ Refusal → Entry

-- the stream and the history's words that a call leaves, and what goes into the log
pub record Step : Type 0 where
  pub stream : DataStream
  pub ring : List ℕ
  pub entry : Entry

unfoldable pub step_of : DataStream → List ℕ → Call → Step
step_of s ring (send_ump cfg ws) =
    let h = send_answer s cfg ring ws in
    record { stream = h.0.stream; ring = h.1; entry = by_sender (Sender.queue_entry cfg ws h.0.answer) }
step_of s ring (on_retransmit_request cfg r) =
    let h = request_answer s cfg ring r in
    record { stream = h.stream; ring = ring; entry = by_sender (Sender.request_entry cfg r h.answer) }
step_of s ring (on_ump_data cfg time seq ws) =
    let h = data_answer s cfg time seq in
    record { stream = h.stream; ring = ring; entry = by_receiver (Receiver.data_entry cfg time seq ws h.answer) }
step_of s ring (on_retransmit_error err) =
    let h = error_answer s err in
    record { stream = h.stream; ring = ring; entry = by_receiver (Receiver.error_entry err h.answer) }
step_of s ring on_retransmit_nak =
    let h = nak_answer s in
    record { stream = h.stream; ring = ring; entry = by_receiver (Receiver.nak_entry h.answer) }
step_of s ring (poll cfg time) =
    let h = poll_answer s cfg time in
    record { stream = h.stream; ring = ring; entry = by_receiver (Receiver.poll_entry cfg time h.answer) }
step_of s ring (write_request cfg p b) =
    let h = take_answer s cfg p b in
    record { stream = h.0.stream; ring = ring; entry = by_receiver (Receiver.take_entry cfg p b h.0.answer h.0.payload h.1) }
step_of s ring (write_data cfg time p b) =
    let h = write_answer s cfg time p b ring in
    record { stream = h.0.stream; ring = h.2; entry = wrote cfg time p b h.0.answer h.0.payload h.1 }
step_of s ring next_deadline = record { stream = s; ring = ring; entry = deadline (deadline_answer s ring) }
step_of s ring (wants_write time) = record { stream = s; ring = ring; entry = wants time (wants_answer s ring time) }
step_of s ring reset =
    let h = reset_answer s ring in
    record { stream = h.0.stream; ring = h.1; entry = was_reset h.0.answer }

-- the stream left, the history's words, and the log, newest first
pub record Run : Type 0 where
  pub stream : DataStream
  pub ring : List ℕ
  pub log : List Entry

unfoldable pub run_from : DataStream → List ℕ → List Entry → List Call → Run
run_from s ring t [] = record { stream = s; ring = ring; log = t }
run_from s ring t (c ∷ calls) = run_from (step_of s ring c).stream (step_of s ring c).ring ((step_of s ring c).entry ∷ t) calls

-- from a start with this window, over a lent history of c words, with q places for requests
unfoldable pub run : StreamConfig → ℕ → ℕ → ℕ → List ℕ → List Call → Run
run cfg W c q ring₀ calls = run_from (new_answer cfg W c q ring₀).0.stream (new_answer cfg W c q ring₀).1 [] calls

-- words have 32 bits, numbers and counts 16, R and K 8
abbrev pub Typed : Call → Type 0
Typed (send_ump cfg ws) = TypedConfig cfg × Words32 ws
Typed (on_retransmit_request cfg r) = TypedConfig cfg × (r.seq < turn) × (r.count < turn)
Typed (on_ump_data cfg time seq ws) = seq < turn
Typed (on_retransmit_error err) = Unit {0}
Typed on_retransmit_nak = Unit {0}
Typed (poll cfg time) = Unit {0}
Typed (write_request cfg p b) = Unit {0}
Typed (write_data cfg time p b) = TypedConfig cfg
Typed next_deadline = Unit {0}
Typed (wants_write time) = Unit {0}
Typed reset = Unit {0}

abbrev pub AllTyped : List Call → Type 0
AllTyped [] = Unit {0}
AllTyped (c ∷ calls) = Typed c × AllTyped calls
