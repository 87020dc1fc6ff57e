-- 01, "The runs of demand 3": lists of calls on a fresh receiver, refused ones included, each taking what the last left.
use Rattle.std.specs.Prelude.{ℕ, ◌<◌, List, [], ◌∷◌, Option, Result}
use Rattle.config.specs.declared.refusal.Refusal.{Refusal}
use Rattle.receiver.specs.declared.receiver.Delivery.{Delivery}
use Rattle.config.specs.Sequence.{turn}
use Rattle.config.specs.declared.settings.StreamConfig.{StreamConfig}
use Rattle.packet.specs.declared.writer.PayloadWriter.{PayloadWriter}
use Rattle.command.specs.declared.retransmit.RetransmitError.{RetransmitError}
use Rattle.receiver.specs.Receiver.{fresh_of}
use Rattle.receiver.specs.Answers.{data_answer, poll_answer, error_answer, nak_answer, take_answer}
use Rattle.receiver.specs.declared.receiver.Receiver.{Receiver}
use Rattle.receiver.specs.declared.receiver.StreamEvent.{StreamEvent}
use Rattle.receiver.specs.declared.receiver.Request.{Request}

-- a call, each argument free
pub data Call : Type 0 where
  -- settings, time, number, words
  data_command : StreamConfig → ℕ → ℕ → List ℕ → Call
  -- settings, time
  poll : StreamConfig → ℕ → Call
  retransmit_error : RetransmitError → Call
  nak : Call
  -- settings, payload, buffer
  take_request : StreamConfig → PayloadWriter → List ℕ → Call

-- a call with its answer; of taking a request also the payload and the buffer after it
pub data Entry : Type 0 where
  data_entry : StreamConfig → ℕ → ℕ → List ℕ → Result Delivery Refusal → Entry
  poll_entry : StreamConfig → ℕ → Result (Option StreamEvent) Refusal → Entry
  error_entry : RetransmitError → Result (Option StreamEvent) Refusal → Entry
  nak_entry : Result (Option StreamEvent) Refusal → Entry
  take_entry : StreamConfig → PayloadWriter → List ℕ → Result Request Refusal → PayloadWriter → List ℕ → Entry

-- the state that a call leaves, and what goes into the log
pub record Step : Type 0 where
  pub receiver : Receiver
  pub entry : Entry

unfoldable pub step_of : Receiver → Call → Step
step_of r (data_command s time seq ws) =
    let h = data_answer r s time seq in
    record { receiver = h.receiver; entry = data_entry s time seq ws h.answer }
step_of r (poll s time) =
    let h = poll_answer r s time in
    record { receiver = h.receiver; entry = poll_entry s time h.answer }
step_of r (retransmit_error e) =
    let h = error_answer r e in
    record { receiver = h.receiver; entry = error_entry e h.answer }
step_of r nak =
    let h = nak_answer r in
    record { receiver = h.receiver; entry = nak_entry h.answer }
step_of r (take_request s p b) =
    let h = take_answer r s p b in
    record { receiver = h.0.receiver; entry = take_entry s p b h.0.answer h.0.payload h.1 }

-- the state left, and the log, newest first
pub record Run : Type 0 where
  pub receiver : Receiver
  pub log : List Entry

unfoldable pub run_from : Receiver → List Entry → List Call → Run
run_from r t [] = record { receiver = r; log = t }
run_from r t (c ∷ calls) = run_from (step_of r c).receiver ((step_of r c).entry ∷ t) calls

unfoldable pub run : ℕ → List Call → Run
unfolding run_from
run W calls = run_from (fresh_of W) [] calls

-- a number has 16 bits
abbrev pub Typed : Call → Type 0
Typed (data_command s time seq ws) = seq < turn
Typed (poll s time) = Unit {0}
Typed (retransmit_error e) = Unit {0}
Typed nak = Unit {0}
Typed (take_request s p b) = Unit {0}

abbrev pub AllTyped : List Call → Type 0
AllTyped [] = Unit {0}
AllTyped (c ∷ calls) = Typed c × AllTyped calls
