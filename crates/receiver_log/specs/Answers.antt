-- What the next call answers, from the past calls and answers alone. The receiver's state is never refused: 13 is left for a payload's.
use Rattle.std.specs.Prelude.{ℕ, ◌%◌, Bool, cond, ◌&&◌, List, [], ◌∷◌, length, Option, Some, None, Result, Ok, Err, ⊤}
use Rattle.command.specs.declared.retransmit.RetransmitRequest.{RetransmitRequest}
use Rattle.config.specs.declared.refusal.Refusal.{Refusal}
use Rattle.window.specs.declared.window.SeqRange.{SeqRange}
use Rattle.config.specs.Entry.{entry}
use Rattle.config.specs.Sequence.{turn}
use Rattle.config.specs.Settings.{check_of, tested}
use Rattle.config.specs.declared.settings.StreamConfig.{StreamConfig}
use Rattle.packet.specs.Write.{written_of, valid_of as payload_valid}
use Rattle.packet.specs.declared.writer.PayloadWriter.{PayloadWriter}
use Rattle.command.specs.Write.{request_packet}
use Rattle.command.specs.declared.retransmit.RetransmitError.{RetransmitError}
use Rattle.receiver.specs.Receiver.{gap_of, loss_of, error_event, no_fit}
use Rattle.receiver.specs.declared.receiver.Delivery.{Delivery}
use Rattle.receiver.specs.declared.receiver.StreamEvent.{StreamEvent}
use Rattle.receiver.specs.declared.receiver.StreamEvent.TheVariants.{RetransmitError as ErrorOnly}
use Rattle.receiver.specs.declared.receiver.Request.{Request}
use Rattle.receiver.specs.declared.receiver.Request.TheVariants.{Nothing as NotDue, Written}
use Rattle.receiver_log.specs.Calls.{Call, data_command, poll, retransmit_error, nak, take_request, Entry, data_entry, poll_entry, error_entry, nak_entry, take_entry}
use Rattle.receiver_log.specs.Log.{Report, reports, high}
use Rattle.receiver_log.specs.Spans.{class_in, lost_in, missing_in, request_in, asked_for}
use Rattle.receiver_log.specs.Timing.{enabled_in, Tick, waits, asks, gives_up, tick_at, timer_in, due_in, asked_in}

-- a data command: its class, the skipped numbers, and its loss
abbrev pub delivery_in : ℕ → List Report → ℕ → Delivery
delivery_in W t seq = record { seq = seq; class = class_in W t seq; gap = gap_of (high t % turn) (class_in W t seq); lost = lost_in W t seq }

-- a poll reports the missing span where it gives up
abbrev pub poll_event : Option SeqRange → Tick → Result (Option StreamEvent) Refusal
poll_event missing waits = Ok None
poll_event missing asks = Ok None
poll_event missing gives_up = loss_of missing

-- A Retransmit Error to an unanswered request reports from the oldest to the newest of the missing positions of its span.
abbrev pub error_in : ℕ → List Report → RetransmitError → Option RetransmitRequest → Result (Option StreamEvent) Refusal
error_in W t e None = Ok (Some (ErrorOnly e))
error_in W t e (Some q) = error_event e (asked_for W t q)

-- A NAK with a request unanswered reports all missing.
abbrev pub nak_event : Option SeqRange → Option RetransmitRequest → Result (Option StreamEvent) Refusal
nak_event missing None = Ok None
nak_event missing (Some q) = loss_of missing

-- a due request is written, or doesn't fit
abbrev pub write_answer : PayloadWriter → Result ⊤ Refusal → Result Request Refusal
write_answer p (Ok _) = Ok Written
write_answer p (Err why) = no_fit p

abbrev pub offered : StreamConfig → PayloadWriter → List ℕ → Option SeqRange → Entry
offered s p b None = take_entry s p b (Ok NotDue) p b
offered s p b (Some range) =
    let w = written_of p b (request_packet record { seq = range.first; count = range.count }) in
    take_entry s p b (write_answer w.0.payload w.0.answer) w.0.payload w.1

-- nothing due, or dropped since requests are disabled; otherwise offered to the payload
abbrev pub take_in : StreamConfig → PayloadWriter → List ℕ → Bool → Option SeqRange → Entry
take_in s p b offers request =
    entry (check_of s) (payload_valid p (length b)) (λ why. take_entry s p b (Err why) p b) (cond offers (offered s p b request) (take_entry s p b (Ok NotDue) p b))

unfoldable pub answer_of : ℕ → List Entry → Call → Entry
answer_of W t (data_command s time seq ws) = data_entry s time seq ws (tested (check_of s) Err (Ok (delivery_in W (reports t) seq)))
answer_of W t (poll s time) =
    poll_entry s time (tested (check_of s) Err (poll_event (missing_in W (reports t)) (tick_at (enabled_in t s) s time (timer_in W t))))
answer_of W t (retransmit_error e) = error_entry e (error_in W (reports t) e (asked_in W t))
answer_of W t nak = nak_entry (nak_event (missing_in W (reports t)) (asked_in W t))
answer_of W t (take_request s p b) = take_in s p b (due_in W t && enabled_in t s) (request_in W (reports t))

-- the log of a list of calls, from the calls alone
unfoldable pub said_of : ℕ → List Entry → List Call → List Entry
unfolding answer_of
said_of W t [] = t
said_of W t (c ∷ calls) = said_of W (answer_of W t c ∷ t) calls
