-- 01, "Numbers of each operation": 0, or a refusal's number, and then 0 in every other field. The cases of an answer are numbered in the order of their declaration.
use Rattle.std.specs.Prelude.{ℕ, Bool, true, false, Option, Some, None, Result, Ok, Err}
use Rattle.config.specs.declared.refusal.Refusal.{Refusal}
use Rattle.receiver.specs.declared.receiver.Delivery.{Delivery}
use Rattle.window.specs.declared.window.SeqRange.{SeqRange}
use Rattle.window.specs.declared.window.Taken.{Taken}
use Rattle.writing.specs.declared.writing.Written.{Written}
use Rattle.config.specs.Refusals.{number_of}
use Rattle.history.specs.declared.queue.Ignored.{Ignored as WhyIgnored}
use Rattle.history.specs.declared.queue.Ignored.TheVariants.{Pending, Full}
use Rattle.window.specs.declared.window.Class.{Class}
use Rattle.window.specs.declared.window.Class.TheVariants.{New, Late, Duplicate}
use Rattle.receiver.specs.declared.receiver.StreamEvent.{StreamEvent}
use Rattle.receiver.specs.declared.receiver.StreamEvent.TheVariants.{DataLoss, ErrorLoss, RetransmitError}
use Rattle.receiver.specs.declared.receiver.Request.{Request}
use Rattle.receiver.specs.declared.receiver.Request.TheVariants.{Nothing as NotDue, Written as Asked, More}
use Rattle.sender.specs.declared.sender.RequestOutcome.{RequestOutcome}
use Rattle.sender.specs.declared.sender.RequestOutcome.TheVariants.{Queued, Ignored, Error, NotSupported}
use Rattle.c_answers.specs.declared.answers.COutcome.{COutcome}
use Rattle.c_answers.specs.declared.answers.CEvent.{CEvent}
use Rattle.c_answers.specs.declared.answers.CRequest.{CRequest}
use Rattle.c_answers.specs.declared.answers.CDeadline.{CDeadline}
use Rattle.c_answers.specs.declared.answers.CWants.{CWants}
use Rattle.c_answers.specs.declared.answers.Numbers.{Numbers}
use Rattle.c_answers.specs.declared.answers.CDelivery.{CDelivery}
use Rattle.c_answers.specs.declared.answers.CWritten.{CWritten}

-- a bool as a number
abbrev pub bit : Bool → ℕ
bit false = 0
bit true = 1

abbrev pub span_numbers : Option SeqRange → Numbers
span_numbers None = record { first = 0; count = 0 }
span_numbers (Some r) = record { first = r.first; count = r.count }

abbrev pub class_number : Class → ℕ
class_number (New n) = 0
class_number Late = 1
class_number Duplicate = 2

abbrev pub skipped_in : Class → ℕ
skipped_in (New n) = n
skipped_in Late = 0
skipped_in Duplicate = 0

abbrev pub class_of : Class → Option SeqRange → Option SeqRange → CDelivery
class_of c gap lost =
    record {
      refusal = 0;
      class = class_number c;
      skipped = skipped_in c;
      gap_first = (span_numbers gap).first;
      gap_count = (span_numbers gap).count;
      lost_first = (span_numbers lost).first;
      lost_count = (span_numbers lost).count;
    }

abbrev pub delivery_refused : ℕ → CDelivery
delivery_refused n =
    record { refusal = n; class = 0; skipped = 0; gap_first = 0; gap_count = 0; lost_first = 0; lost_count = 0 }

abbrev pub delivery_of : Result Delivery Refusal → CDelivery
delivery_of (Ok d) = class_of d.class d.gap d.lost
delivery_of (Err why) = delivery_refused (number_of why)

abbrev pub written_refused : ℕ → CWritten
written_refused n = record { commands = 0; refusal = n; more = 0 }

abbrev pub written_of : Result Written Refusal → CWritten
written_of (Ok w) = record { commands = w.commands; refusal = 0; more = bit w.more }
written_of (Err why) = written_refused (number_of why)

abbrev pub acceptance_of : Result Taken Refusal → CDelivery
acceptance_of (Ok taken) = class_of taken.class None taken.lost
acceptance_of (Err why) = delivery_refused (number_of why)

abbrev pub ignored_number : WhyIgnored → ℕ
ignored_number Pending = 1
ignored_number Full = 2

abbrev pub outcome_refused : ℕ → COutcome
outcome_refused n = record { refusal = n; kind = 0; reason = 0; seq = 0 }

-- an outcome that is its kind alone
abbrev pub outcome_kind : ℕ → COutcome
outcome_kind n = record { refusal = 0; kind = n; reason = 0; seq = 0 }

abbrev pub outcome_of : Result RequestOutcome Refusal → COutcome
outcome_of (Ok Queued) = outcome_kind 0
outcome_of (Ok (Ignored i)) = outcome_kind (ignored_number i)
outcome_of (Ok (Error e)) = record { refusal = 0; kind = 3; reason = e.reason; seq = e.seq }
outcome_of (Ok NotSupported) = outcome_kind 4
outcome_of (Err why) = outcome_refused (number_of why)

abbrev pub event_refused : ℕ → CEvent
event_refused n = record { refusal = n; kind = 0; reason = 0; seq = 0; first = 0; count = 0 }

abbrev pub event_of : Result (Option StreamEvent) Refusal → CEvent
event_of (Ok None) = event_refused 0
event_of (Ok (Some (DataLoss r))) = record { refusal = 0; kind = 1; reason = 0; seq = 0; first = r.first; count = r.count }
event_of (Ok (Some (ErrorLoss r e))) = record { refusal = 0; kind = 2; reason = e.reason; seq = e.seq; first = r.first; count = r.count }
event_of (Ok (Some (RetransmitError e))) = record { refusal = 0; kind = 3; reason = e.reason; seq = e.seq; first = 0; count = 0 }
event_of (Err why) = event_refused (number_of why)

abbrev pub request_refused : ℕ → CRequest
request_refused n = record { refusal = n; kind = 0 }

abbrev pub request_of : Result Request Refusal → CRequest
request_of (Ok NotDue) = record { refusal = 0; kind = 0 }
request_of (Ok Asked) = record { refusal = 0; kind = 1 }
request_of (Ok More) = record { refusal = 0; kind = 2 }
request_of (Err why) = request_refused (number_of why)

abbrev pub deadline_refused : ℕ → CDeadline
deadline_refused n = record { time = 0; refusal = n; kind = 0 }

abbrev pub deadline_of : Result (Option ℕ) Refusal → CDeadline
deadline_of (Ok None) = record { time = 0; refusal = 0; kind = 0 }
deadline_of (Ok (Some t)) = record { time = t; refusal = 0; kind = 1 }
deadline_of (Err why) = deadline_refused (number_of why)

abbrev pub wants_refused : ℕ → CWants
wants_refused n = record { refusal = n; wants = 0 }

abbrev pub wants_of : Result Bool Refusal → CWants
wants_of (Ok b) = record { refusal = 0; wants = bit b }
wants_of (Err why) = wants_refused (number_of why)
