-- 01, "Position, window, loss", its second part: the request timer, the due request, the unanswered one and the NAK, from the past calls and answers.
use Rattle.std.specs.Prelude.{ℕ, ◌+◌, Bool, true, false, cond, not, ◌&&◌, List, [], ◌∷◌, ltb, Option, Some, None, Result, Ok, Err}
use Rattle.command.specs.declared.retransmit.RetransmitRequest.{RetransmitRequest}
use Rattle.config.specs.declared.refusal.Refusal.{Refusal}
use Rattle.receiver.specs.declared.receiver.RequestTimer.{RequestTimer}
use Rattle.window.specs.declared.window.SeqRange.{SeqRange}
use Rattle.config.specs.declared.settings.StreamConfig.{StreamConfig}
use Rattle.receiver.specs.Receiver.{due_after, is_gap, restarts}
use Rattle.receiver.specs.declared.receiver.StreamEvent.{StreamEvent}
use Rattle.receiver.specs.declared.receiver.StreamEvent.TheVariants.{DataLoss, ErrorLoss, RetransmitError as ErrorOnly}
use Rattle.receiver.specs.declared.receiver.Request.{Request}
use Rattle.receiver.specs.declared.receiver.Request.TheVariants.{Nothing as NotDue, Written, More}
use Rattle.receiver_log.specs.Calls.{Entry, data_entry, poll_entry, error_entry, nak_entry, take_entry}
use Rattle.receiver_log.specs.Log.{reports}
use Rattle.receiver_log.specs.Spans.{nothing_missing, request_in}

-- ---- a NAK disables requests until a reset

-- a call that was refused changes nothing
abbrev pub unless_refused : {A : Type 0} → Result (Option StreamEvent) Refusal → A → A → A
unless_refused (Ok None) before next = next
unless_refused (Ok (Some (DataLoss range))) before next = next
unless_refused (Ok (Some (ErrorLoss range e))) before next = next
unless_refused (Ok (Some (ErrorOnly e))) before next = next
unless_refused (Err why) before next = before

abbrev pub nak_after : Bool → Entry → Bool
nak_after k (data_entry s time seq ws a) = k
nak_after k (poll_entry s time e) = k
nak_after k (error_entry q e) = k
nak_after k (nak_entry e) = unless_refused e k true
nak_after k (take_entry s p b a q c) = k

abbrev pub nak_in : List Entry → Bool
nak_in [] = false
nak_in (e ∷ t) = nak_after (nak_in t) e

abbrev pub enabled_in : List Entry → StreamConfig → Bool
enabled_in t s = s.retransmit && not (nak_in t)

-- ---- the timer

-- what a poll does: nothing before the due time or with no timer; else it makes a request due, or after M requests, or if
-- requests are disabled, gives up
pub data Tick : Type 0 where
  waits : Tick
  asks : Tick
  gives_up : Tick

abbrev pub tick_at : Bool → StreamConfig → ℕ → Option RequestTimer → Tick
tick_at enabled s time None = waits
tick_at enabled s time (Some k) = cond (ltb time k.due) waits (cond (ltb k.sent s.max_requests && enabled) asks gives_up)

-- the next delay
abbrev pub later : StreamConfig → ℕ → Option RequestTimer → Option RequestTimer
later s time None = None
later s time (Some k) = Some record { due = due_after s.request_delay_ms (k.sent + 1) time; sent = k.sent + 1 }

abbrev pub ticked : StreamConfig → ℕ → Option RequestTimer → Tick → Option RequestTimer
ticked s time k waits = k
ticked s time k asks = later s time k
ticked s time k gives_up = None

-- If requests are enabled, a new gap starts the timer at D when none runs or when the running one has made a request due.
abbrev pub timer_after : List Entry → Option RequestTimer → Entry → Option RequestTimer
timer_after t k (data_entry s time seq ws (Ok d)) =
    cond (is_gap d.class && (enabled_in t s && restarts k)) (Some record { due = due_after s.request_delay_ms 0 time; sent = 0 }) k
timer_after t k (data_entry s time seq ws (Err why)) = k
timer_after t k (poll_entry s time e) = unless_refused e k (ticked s time k (tick_at (enabled_in t s) s time k))
timer_after t k (error_entry q e) = k
timer_after t k (nak_entry e) = unless_refused e k None
timer_after t k (take_entry s p b a q c) = k

-- The timer stops when nothing is missing.
abbrev pub timer_in : ℕ → List Entry → Option RequestTimer
timer_in W [] = None
timer_in W (e ∷ t) = cond (nothing_missing W (reports (e ∷ t))) None (timer_after t (timer_in W t) e)

-- ---- the due request

abbrev pub due_polled : Bool → Tick → Bool
due_polled due waits = due
due_polled due asks = true
due_polled due gives_up = false

-- a request waits on where it didn't fit; otherwise it was written or dropped
abbrev pub due_taken : Bool → Result Request Refusal → Bool
due_taken due (Ok NotDue) = false
due_taken due (Ok Written) = false
due_taken due (Ok More) = due
due_taken due (Err why) = due

abbrev pub due_then : List Entry → Option RequestTimer → Bool → Entry → Bool
due_then t k due (data_entry s time seq ws a) = due
due_then t k due (poll_entry s time e) = unless_refused e due (due_polled due (tick_at (enabled_in t s) s time k))
due_then t k due (error_entry q e) = due
due_then t k due (nak_entry e) = unless_refused e due false
due_then t k due (take_entry s p b a q c) = due_taken due a

-- with nothing missing, none is due
abbrev pub due_in : ℕ → List Entry → Bool
due_in W [] = false
due_in W (e ∷ t) = cond (nothing_missing W (reports (e ∷ t))) false (due_then t (timer_in W t) (due_in W t) e)

-- ---- the unanswered request

abbrev pub asking : Option SeqRange → Option RetransmitRequest
asking None = None
asking (Some range) = Some record { seq = range.first; count = range.count }

abbrev pub asked_taken : Option RetransmitRequest → Option SeqRange → Result Request Refusal → Option RetransmitRequest
asked_taken before request (Ok NotDue) = before
asked_taken before request (Ok Written) = asking request
asked_taken before request (Ok More) = before
asked_taken before request (Err why) = before

-- the last request that was written; a Retransmit Error or a NAK uses it up
abbrev pub asked_after : ℕ → List Entry → Option RetransmitRequest → Entry → Option RetransmitRequest
asked_after W t k (data_entry s time seq ws a) = k
asked_after W t k (poll_entry s time e) = k
asked_after W t k (error_entry q e) = unless_refused e k None
asked_after W t k (nak_entry e) = unless_refused e k None
asked_after W t k (take_entry s p b a q c) = asked_taken k (request_in W (reports t)) a

-- with nothing missing, none is unanswered
abbrev pub asked_in : ℕ → List Entry → Option RetransmitRequest
asked_in W [] = None
asked_in W (e ∷ t) = cond (nothing_missing W (reports (e ∷ t))) None (asked_after W t (asked_in W t) e)
