-- 01, "Position, window, loss", its second part: the receiver's calls, over settings and a state that were tested.
use Rattle.std.specs.Prelude.{ℕ, ◌+◌, ◌*◌, ◌^◌, min, Bool, true, false, cond, not, ◌&&◌, List, ltb, eqb, Option, Some, None, Result, Ok, Err, ⊤}
use Rattle.config.specs.declared.refusal.Refusal.{Refusal}
use Rattle.receiver.specs.declared.receiver.Delivery.{Delivery}
use Rattle.receiver.specs.declared.receiver.ReceiverAnswer.{ReceiverAnswer}
use Rattle.receiver.specs.declared.receiver.RequestTimer.{RequestTimer}
use Rattle.window.specs.declared.window.SeqRange.{SeqRange}
use Rattle.config.specs.Sequence.{after}
use Rattle.config.specs.Time.{later}
use Rattle.config.specs.declared.refusal.Refusal.TheVariants.{TooLarge}
use Rattle.config.specs.declared.settings.StreamConfig.{StreamConfig}
use Rattle.packet.specs.Write.{written_of}
use Rattle.packet.specs.declared.writer.PayloadWriter.{PayloadWriter}
use Rattle.command.specs.Write.{request_packet}
use Rattle.command.specs.declared.retransmit.RetransmitRequest.{RetransmitRequest}
use Rattle.command.specs.declared.retransmit.RetransmitError.{RetransmitError}
use Rattle.window.specs.Window.{valid_of as window_valid, fresh, fresh_of as all_processed, missing_of, missing_span, request_of}
use Rattle.window.specs.Arrival.{accept_of}
use Rattle.window.specs.Marking.{mark_of}
use Rattle.window.specs.declared.window.ReceiveWindow.{ReceiveWindow}
use Rattle.window.specs.declared.window.Class.{Class}
use Rattle.window.specs.declared.window.Class.TheVariants.{New, Late, Duplicate}
use Rattle.receiver.specs.declared.receiver.Receiver.{Receiver}
use Rattle.receiver.specs.declared.receiver.StreamEvent.{StreamEvent}
use Rattle.receiver.specs.declared.receiver.StreamEvent.TheVariants.{DataLoss, ErrorLoss, RetransmitError as ErrorOnly}
use Rattle.receiver.specs.declared.receiver.Request.{Request}
use Rattle.receiver.specs.declared.receiver.Request.TheVariants.{Nothing as NotDue, Written, More}
use Rattle.receiver.specs.declared.receiver.RequestWritten.{RequestWritten}

-- ---- the state
unfoldable pub valid_of : Receiver → Bool
valid_of r = window_valid r.window

-- all but the window as at the start
abbrev pub rest_of : Bool → ReceiveWindow → Receiver
rest_of refused w = record { window = w; timer = None; request_due = false; refused = refused; asked = None }

abbrev pub fresh_of : ℕ → Receiver
fresh_of size = rest_of false (fresh size)

-- requests are enabled: by the settings, and no NAK since the start
abbrev pub enabled_of : Receiver → StreamConfig → Bool
enabled_of r s = s.retransmit && not r.refused

abbrev pub nothing_missing : ReceiveWindow → Bool
nothing_missing w = eqb (missing_of w) 0

-- ---- times
-- the due time: D, 2D, 4D and on after so many requests, the power capped at 2^32
unfoldable pub due_after : ℕ → ℕ → ℕ → ℕ
due_after delay sent time = later time (delay * 2 ^ min sent 32)

-- ---- a data command
-- the skipped numbers, from the one after the old highest on
abbrev pub gap_of : ℕ → Class → Option SeqRange
gap_of highest (New gap) = cond (eqb gap 0) None (Some record { first = after highest 1; count = gap })
gap_of highest Late = None
gap_of highest Duplicate = None

abbrev pub is_gap : Class → Bool
is_gap (New gap) = ltb 0 gap
is_gap Late = false
is_gap Duplicate = false

-- a new gap starts the timer when none runs or when the running one has made a request due
abbrev pub restarts : Option RequestTimer → Bool
restarts None = true
restarts (Some t) = ltb 0 t.sent

-- The timer stops when nothing is missing, and what it asked for is done with. If requests are enabled, a new gap starts it.
unfoldable pub settled_of : Receiver → StreamConfig → ℕ → ReceiveWindow → Class → Receiver
settled_of r s time w class =
    cond (nothing_missing w) (rest_of r.refused w)
    (cond (is_gap class && (enabled_of r s && restarts r.timer))
    (record { window = w; timer = Some record { due = due_after s.request_delay_ms 0 time; sent = 0 }; request_due = r.request_due; refused = r.refused; asked = r.asked })
    (record { window = w; timer = r.timer; request_due = r.request_due; refused = r.refused; asked = r.asked }))

unfoldable pub heard_of : Receiver → StreamConfig → ℕ → ℕ → ReceiverAnswer Delivery
heard_of r s time seq =
    let taken = accept_of r.window seq in
    record {
      receiver = settled_of r s time taken.window taken.class;
      answer = Ok record { seq = seq; class = taken.class; gap = gap_of r.window.highest taken.class; lost = taken.lost };
    }

-- ---- losses
abbrev pub quiet_of : Receiver → ReceiverAnswer (Option StreamEvent)
quiet_of r = record { receiver = r; answer = Ok None }

abbrev pub loss_of : Option SeqRange → Result (Option StreamEvent) Refusal
loss_of None = Ok None
loss_of (Some range) = Ok (Some (DataLoss range))

-- the missing span is reported, and all is processed
unfoldable pub gave_up : Bool → ReceiveWindow → ReceiverAnswer (Option StreamEvent)
gave_up refused w = record { receiver = rest_of refused (all_processed w.size w.highest); answer = loss_of (missing_span w) }

-- Each poll at or after the due time makes a request due and sets the next delay; after M requests, or if requests are disabled,
-- it reports the missing span.
abbrev pub polled_at : Receiver → StreamConfig → ℕ → Option RequestTimer → ReceiverAnswer (Option StreamEvent)
polled_at r s time None = quiet_of r
polled_at r s time (Some t) =
    cond (ltb time t.due) (quiet_of r)
    (cond (nothing_missing r.window) (quiet_of (rest_of r.refused r.window))
    (cond (ltb t.sent s.max_requests && enabled_of r s)
    (quiet_of record { window = r.window; timer = Some record { due = due_after s.request_delay_ms (t.sent + 1) time; sent = t.sent + 1 }; request_due = true; refused = r.refused; asked = r.asked })
    (gave_up r.refused r.window)))

unfoldable pub polled_of : Receiver → StreamConfig → ℕ → ReceiverAnswer (Option StreamEvent)
polled_of r s time = polled_at r s time r.timer

-- A Retransmit Error to an unanswered request marks the missing positions of its span and reports from the oldest to the newest of them.
abbrev pub error_event : RetransmitError → Option SeqRange → Result (Option StreamEvent) Refusal
error_event e None = Ok (Some (ErrorOnly e))
error_event e (Some range) = Ok (Some (ErrorLoss range e))

abbrev pub marked_by : Receiver → ReceiveWindow → Receiver
marked_by r w =
    cond (nothing_missing w) (rest_of r.refused w)
    (record { window = w; timer = r.timer; request_due = r.request_due; refused = r.refused; asked = None })

abbrev pub error_to : Receiver → RetransmitError → Option RetransmitRequest → ReceiverAnswer (Option StreamEvent)
error_to r e None = record { receiver = r; answer = Ok (Some (ErrorOnly e)) }
error_to r e (Some q) =
    let marked = mark_of r.window record { first = q.seq; count = q.count } in
    record { receiver = marked_by r marked.window; answer = error_event e marked.span }

unfoldable pub error_of : Receiver → RetransmitError → ReceiverAnswer (Option StreamEvent)
error_of r e = error_to r e r.asked

-- A NAK disables requests until a reset, stops the timer and, with a request unanswered, reports and marks all missing.
abbrev pub nak_by : Receiver → Option RetransmitRequest → ReceiverAnswer (Option StreamEvent)
nak_by r None = quiet_of (rest_of true r.window)
nak_by r (Some q) = gave_up true r.window

unfoldable pub nak_of : Receiver → ReceiverAnswer (Option StreamEvent)
nak_of r = nak_by r r.asked

-- ---- taking a due request
-- no request due, and this one unanswered
abbrev pub with_asked : Receiver → Option RetransmitRequest → Receiver
with_asked r asked = record { window = r.window; timer = r.timer; request_due = false; refused = r.refused; asked = asked }

abbrev pub not_due : Receiver → PayloadWriter → RequestWritten
not_due r p = record { receiver = r; payload = p; answer = Ok NotDue }

-- 3 when the payload is empty; not fitting a nonempty payload is no refusal but "more"
abbrev pub no_fit : PayloadWriter → Result Request Refusal
no_fit p = cond (eqb p.len 0) (Err TooLarge) (Ok More)

-- written, and then unanswered; or as before where it doesn't fit
abbrev pub taken_by : Receiver → RetransmitRequest → PayloadWriter → Result ⊤ Refusal → RequestWritten
taken_by r q p (Ok _) = record { receiver = with_asked r (Some q); payload = p; answer = Ok Written }
taken_by r q p (Err why) = record { receiver = r; payload = p; answer = no_fit p }

unfoldable pub offered_of : Receiver → RetransmitRequest → PayloadWriter → List ℕ → RequestWritten × List ℕ
offered_of r q p b =
    let w = written_of p b (request_packet q) in
    (taken_by r q w.0.payload w.0.answer, w.1)

abbrev pub taken_span : Receiver → PayloadWriter → List ℕ → Option SeqRange → RequestWritten × List ℕ
taken_span r p b None = (not_due (with_asked r r.asked) p, b)
taken_span r p b (Some range) = offered_of r record { seq = range.first; count = range.count } p b

-- dropped if requests are disabled or nothing is missing
unfoldable pub taken_of : Receiver → StreamConfig → PayloadWriter → List ℕ → RequestWritten × List ℕ
taken_of r s p b =
    cond (not r.request_due) (not_due r p, b)
    (cond (not (enabled_of r s)) (not_due (with_asked r r.asked) p, b)
    (taken_span r p b (request_of r.window)))

-- ---- questions
abbrev pub deadline_at : Option RequestTimer → Result (Option ℕ) Refusal
deadline_at None = Ok None
deadline_at (Some t) = Ok (Some t.due)

unfoldable pub deadline_of : Receiver → Result (Option ℕ) Refusal
deadline_of r = deadline_at r.timer
