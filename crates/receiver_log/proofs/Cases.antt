-- 01, "Session cases" and "Position, window, loss", computed over logs: what lists of calls answer, and what the timer is after them.
use mathlib.Core.Path.{◌≡◌, refl}
use Rattle.std.proofs.Common.{Option, Some, None, Ok}
use Rattle.window.specs.declared.window.SeqRange.{SeqRange}
use mathlib.Core.Bool.{true, false}
use mathlib.Core.List.{List, [], ◌∷◌}
use Prim.Native.Nat.{ℕ}
use lib.Count.{count_trailing_zeros}
use Rattle.config.specs.Settings.{check_of, defaults}
use Rattle.packet.specs.Write.{valid_of, written_of}
use Rattle.packet.specs.declared.writer.PayloadWriter.{PayloadWriter}
use Rattle.window.specs.Window.{valid_of as window_valid, processed, missing_of, span_of}
use Rattle.window.specs.Set.{val, set_of, top_in, top_of, bottom_of}
use Rattle.window.specs.Arrival.{class_of, moved_of, lost_of, new_of, accept_of}
use Rattle.window.specs.declared.window.Class.TheVariants.{New, Late, Duplicate}
use Rattle.receiver.specs.Receiver.{valid_of as receiver_valid, due_after, settled_of, heard_of, gave_up, polled_of}
use Rattle.receiver.specs.Answers.{data_answer, poll_answer}
use Rattle.receiver.specs.declared.receiver.StreamEvent.TheVariants.{DataLoss}
use Rattle.receiver_log.specs.Calls.{Call, data_command, poll, retransmit_error, nak, take_request, Entry, step_of, run_from, run}
use Rattle.receiver_log.specs.Log.{heard, told, reports, is_ahead, place, start, unprocessed}
use Rattle.receiver_log.specs.Spans.{ends_of, class_in, lost_at, lost_in, missing_ends, missing_in, asked_for}
use Rattle.receiver_log.specs.Timing.{timer_in, asked_in, nak_in}
use Rattle.receiver_log.specs.Answers.{answer_of, said_of}
use Rattle.receiver_log.specs.RequestTimes.{Poll, polled, polls_of, delayed, requests_from}

abbrev hear : ℕ → ℕ → Call
hear time seq = data_command defaults time seq []

abbrev range : ℕ → ℕ → Option SeqRange
range first count = Some record { first = first; count = count }

-- ---- numbers

-- P1 to P3: W 64, fresh, 0 twice; W 4, fresh, 5
pub p12_reports : reports (said_of 64 [] (hear 0 0 ∷ hear 0 0 ∷ [])) ≡ (heard 0 [] Duplicate None ∷ heard 0 [] (New 0) None ∷ [])
unfolding said_of answer_of check_of class_in is_ahead place lost_in lost_at ends_of unprocessed start
p12_reports = refl

pub p3_reports : reports (said_of 4 [] (hear 0 5 ∷ [])) ≡ (heard 5 [] (New 5) (range 0 1) ∷ [])
unfolding said_of answer_of check_of class_in is_ahead place lost_in lost_at ends_of unprocessed start
p3_reports = refl

-- P4 to P6: W 4, fresh, 4, 2, 6
abbrev p456 : List Entry
p456 = said_of 4 [] (hear 0 4 ∷ hear 0 2 ∷ hear 0 6 ∷ [])

pub p456_reports : reports p456 ≡ (heard 6 [] (New 1) (range 0 2) ∷ heard 2 [] Late None ∷ heard 4 [] (New 4) None ∷ [])
unfolding said_of answer_of check_of class_in is_ahead place lost_in lost_at ends_of unprocessed start
p456_reports = refl

pub p456_missing : missing_in 4 (reports p456) ≡ range 3 3
unfolding said_of answer_of check_of class_in is_ahead place lost_in lost_at missing_ends ends_of unprocessed start
p456_missing = refl

-- P8: W 64, fresh, 0x7FFF
pub p8_reports : reports (said_of 64 [] (hear 0 32767 ∷ [])) ≡ (heard 32767 [] Duplicate None ∷ [])
unfolding said_of answer_of check_of class_in is_ahead place lost_in lost_at ends_of unprocessed start
p8_reports = refl

-- ---- timer and requests

-- D 10, M 3: a gap at 0, polls at each due time, and at the last the missing span
pub doubling : timer_in 64 (said_of 64 [] (hear 0 1 ∷ poll defaults 10 ∷ poll defaults 30 ∷ [])) ≡ Some record { due = 70; sent = 2 }
unfolding said_of answer_of check_of class_in is_ahead place lost_in lost_at missing_ends ends_of unprocessed start due_after
doubling = refl

pub given_up : reports (said_of 64 [] (hear 0 1 ∷ poll defaults 10 ∷ poll defaults 30 ∷ poll defaults 70 ∷ poll defaults 150 ∷ []))
    ≡ (told (range 0 1) ∷ told None ∷ told None ∷ told None ∷ heard 1 [] (New 1) None ∷ [])
unfolding said_of answer_of check_of class_in is_ahead place lost_in lost_at missing_ends ends_of unprocessed start due_after
given_up = refl

-- the same times by their definition, and of a receiver with a window of 4 that is polled at each due time
abbrev asked_at : List Poll
asked_at = polled 10 (Ok None) true ∷ polled 30 (Ok None) true ∷ polled 70 (Ok None) true ∷ polled 150 (Ok (Some (DataLoss record { first = 0; count = 1 }))) false ∷ []

pub requests_by_definition : requests_from 10 0 3 0 (Ok (Some (DataLoss record { first = 0; count = 1 }))) ≡ asked_at
unfolding requests_from
requests_by_definition = refl

pub requests_polled : polls_of 5 defaults (run 4 (hear 0 1 ∷ [])).receiver ≡ asked_at
unfolding polls_of poll_answer polled_of receiver_valid gave_up due_after run run_from step_of data_answer heard_of settled_of check_of accept_of class_of new_of moved_of lost_of window_valid processed missing_of span_of val set_of top_in top_of bottom_of count_trailing_zeros
requests_polled = refl

-- the power stops at 2^32, and times at 2^64-1
pub power_capped : (delayed 1 31 0 ≡ 2147483648) × (delayed 1 32 0 ≡ 4294967296) × (delayed 1 33 0 ≡ 4294967296) × (delayed 1 0 18446744073709551615 ≡ 18446744073709551615)
power_capped = (refl, refl, refl, refl)

-- a request that was taken is unanswered; a Retransmit Error reports what is missing of it
abbrev payload : PayloadWriter
payload = record { len = 0; max = 12 }

abbrev zeros : List ℕ
zeros = 0 ∷ 0 ∷ 0 ∷ 0 ∷ 0 ∷ 0 ∷ 0 ∷ 0 ∷ 0 ∷ 0 ∷ 0 ∷ 0 ∷ []

abbrev asking : List Call
asking = hear 0 2 ∷ poll defaults 10 ∷ take_request defaults payload zeros ∷ []

pub taken : asked_in 64 (said_of 64 [] asking) ≡ Some record { seq = 0; count = 2 }
unfolding said_of answer_of check_of class_in is_ahead place lost_in lost_at missing_ends ends_of unprocessed start due_after valid_of written_of
taken = refl

abbrev failing : List Call
failing = hear 0 2 ∷ poll defaults 10 ∷ take_request defaults payload zeros ∷ retransmit_error record { reason = 1; seq = 0 } ∷ []

pub failed : reports (said_of 64 [] failing) ≡ (told (range 0 2) ∷ told None ∷ told None ∷ heard 2 [] (New 2) None ∷ [])
unfolding said_of answer_of check_of class_in is_ahead place lost_in lost_at missing_ends ends_of unprocessed start due_after asked_for valid_of written_of
failed = refl

-- a NAK before the request is taken: nothing is reported, and the position stays missing
abbrev refusing : List Entry
refusing = said_of 64 [] (hear 0 1 ∷ poll defaults 10 ∷ nak ∷ hear 0 3 ∷ [])

pub refused_missing : (missing_in 64 (reports refusing) ≡ range 0 3) × (timer_in 64 refusing ≡ None) × (nak_in refusing ≡ true)
unfolding said_of answer_of check_of class_in is_ahead place lost_in lost_at missing_ends ends_of unprocessed start due_after
refused_missing = (refl, refl, refl)
