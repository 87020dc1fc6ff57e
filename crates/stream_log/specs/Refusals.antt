-- 01, "Numbers of each operation": the number that an answer refuses with, 0 where it doesn't.
use Rattle.std.specs.Prelude.{ℕ, Bool, Option, Some, None, Result, Ok, Err}
use Rattle.config.specs.declared.refusal.Refusal.{Refusal}
use Rattle.receiver.specs.declared.receiver.Delivery.{Delivery}
use Rattle.writing.specs.declared.writing.Written.{Written}
use Rattle.config.specs.Refusals.{number_of, outcome_number}
use Rattle.receiver.specs.declared.receiver.StreamEvent.{StreamEvent}
use Rattle.receiver.specs.declared.receiver.StreamEvent.TheVariants.{DataLoss, ErrorLoss, RetransmitError as ErrorOnly}
use Rattle.receiver.specs.declared.receiver.Request.{Request}
use Rattle.receiver.specs.declared.receiver.Request.TheVariants.{Nothing as NotDue, Written as Taken, More as NoSpace}
use Rattle.receiver_log.specs.Calls.{data_entry, poll_entry, error_entry, nak_entry, take_entry}
use Rattle.sender.specs.declared.sender.RequestOutcome.{RequestOutcome}
use Rattle.sender.specs.declared.sender.RequestOutcome.TheVariants.{Queued, Ignored, Error, NotSupported}
use Rattle.sender_log.specs.Calls.{queue_entry, request_entry, write_entry}
use Rattle.stream_log.specs.Calls.{Entry, by_sender, by_receiver, wrote, deadline, wants, was_reset}

abbrev pub request_number : Result RequestOutcome Refusal → ℕ
request_number (Ok Queued) = 0
request_number (Ok (Ignored why)) = 0
request_number (Ok (Error err)) = 0
request_number (Ok NotSupported) = 0
request_number (Err why) = number_of why

abbrev pub hearing_number : Result Delivery Refusal → ℕ
hearing_number (Ok d) = 0
hearing_number (Err why) = number_of why

abbrev pub event_number : Result (Option StreamEvent) Refusal → ℕ
event_number (Ok None) = 0
event_number (Ok (Some (DataLoss range))) = 0
event_number (Ok (Some (ErrorLoss range err))) = 0
event_number (Ok (Some (ErrorOnly err))) = 0
event_number (Err why) = number_of why

abbrev pub take_number : Result Request Refusal → ℕ
take_number (Ok NotDue) = 0
take_number (Ok Taken) = 0
take_number (Ok NoSpace) = 0
take_number (Err why) = number_of why

abbrev pub write_number : Result Written Refusal → ℕ
write_number (Ok w) = 0
write_number (Err why) = number_of why

abbrev pub deadline_number : Result (Option ℕ) Refusal → ℕ
deadline_number (Ok None) = 0
deadline_number (Ok (Some time)) = 0
deadline_number (Err why) = number_of why

abbrev pub wants_number : Result Bool Refusal → ℕ
wants_number (Ok answer) = 0
wants_number (Err why) = number_of why

abbrev pub number_in : Entry → ℕ
number_in (by_sender (queue_entry cfg ws a)) = outcome_number a
number_in (by_sender (request_entry cfg r a)) = request_number a
number_in (by_sender (write_entry cfg time p b a p' b')) = write_number a
number_in (by_receiver (data_entry cfg time seq ws a)) = hearing_number a
number_in (by_receiver (poll_entry cfg time a)) = event_number a
number_in (by_receiver (error_entry err a)) = event_number a
number_in (by_receiver (nak_entry a)) = event_number a
number_in (by_receiver (take_entry cfg p b a p' b')) = take_number a
number_in (wrote cfg time p b a p' b') = write_number a
number_in (deadline a) = deadline_number a
number_in (wants time a) = wants_number a
number_in (was_reset a) = outcome_number a
