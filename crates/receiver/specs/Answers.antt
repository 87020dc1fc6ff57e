-- The answers of the entry points: settings first (9, 7, 8), then the state (13); a refused call changes nothing.
use Rattle.std.specs.Prelude.{ℕ, cond, ◌&&◌, List, length, Bool, Option, Result, Ok, Err, ⊤}
use Rattle.receiver.specs.declared.receiver.Delivery.{Delivery}
use Rattle.receiver.specs.declared.receiver.ReceiverAnswer.{ReceiverAnswer}
use Rattle.receiver.specs.declared.receiver.StreamEvent.{StreamEvent}
use Rattle.config.specs.Entry.{on_state, entry}
use Rattle.config.specs.Settings.{check_of}
use Rattle.config.specs.Range.{outside}
use Rattle.config.specs.declared.refusal.Refusal.{Refusal}
use Rattle.config.specs.declared.refusal.Refusal.TheVariants.{SizeNotAllowed}
use Rattle.config.specs.declared.settings.StreamConfig.{StreamConfig}
use Rattle.packet.specs.Write.{valid_of as payload_valid}
use Rattle.packet.specs.declared.writer.PayloadWriter.{PayloadWriter}
use Rattle.command.specs.declared.retransmit.RetransmitError.{RetransmitError}
use Rattle.window.specs.Set.{max_window}
use Rattle.receiver.specs.Receiver.{valid_of, fresh_of, heard_of, polled_of, error_of, nak_of, taken_of, deadline_of}
use Rattle.receiver.specs.declared.receiver.Receiver.{Receiver}
use Rattle.receiver.specs.declared.receiver.RequestWritten.{RequestWritten}

-- 12 when W isn't 1 to 128
unfoldable pub new_answer : ℕ → Result Receiver Refusal
new_answer size = cond (outside 1 max_window size) (Err SizeNotAllowed) (Ok (fresh_of size))

-- a refused call leaves the receiver as it was
abbrev pub refused_of : {A : Type 0} → Receiver → Refusal → ReceiverAnswer A
refused_of r why = record { receiver = r; answer = Err why }

abbrev pub reset_refused : Receiver → Refusal → ReceiverAnswer ⊤
reset_refused r why = record { receiver = r; answer = Err why }

unfoldable pub reset_answer : Receiver → ReceiverAnswer ⊤
reset_answer r = on_state (valid_of r) (reset_refused r) record { receiver = fresh_of r.window.size; answer = Ok tt }

abbrev pub hearing_refused : Receiver → Refusal → ReceiverAnswer Delivery
hearing_refused r why = record { receiver = r; answer = Err why }

unfoldable pub data_answer : Receiver → StreamConfig → ℕ → ℕ → ReceiverAnswer Delivery
data_answer r s time seq = entry (check_of s) (valid_of r) (hearing_refused r) (heard_of r s time seq)

abbrev pub event_refused : Receiver → Refusal → ReceiverAnswer (Option StreamEvent)
event_refused r why = record { receiver = r; answer = Err why }

unfoldable pub poll_answer : Receiver → StreamConfig → ℕ → ReceiverAnswer (Option StreamEvent)
poll_answer r s time = entry (check_of s) (valid_of r) (event_refused r) (polled_of r s time)

unfoldable pub error_answer : Receiver → RetransmitError → ReceiverAnswer (Option StreamEvent)
error_answer r e = on_state (valid_of r) (event_refused r) (error_of r e)

unfoldable pub nak_answer : Receiver → ReceiverAnswer (Option StreamEvent)
nak_answer r = on_state (valid_of r) (event_refused r) (nak_of r)

abbrev pub request_refused : Receiver → PayloadWriter → List ℕ → Refusal → RequestWritten × List ℕ
request_refused r p b why = (record { receiver = r; payload = p; answer = Err why }, b)

unfoldable pub take_answer : Receiver → StreamConfig → PayloadWriter → List ℕ → RequestWritten × List ℕ
take_answer r s p b = entry (check_of s) (valid_of r && payload_valid p (length b)) (request_refused r p b) (taken_of r s p b)

unfoldable pub deadline_answer : Receiver → Result (Option ℕ) Refusal
deadline_answer r = on_state (valid_of r) Err (deadline_of r)

unfoldable pub due_answer : Receiver → Result Bool Refusal
due_answer r = on_state (valid_of r) Err (Ok r.request_due)
