-- 01, "Numbers of each operation" and "State test": a call is refused by its settings' number first, then by 13 for words that are no stream's or no payload's; nothing is
-- changed then. Else the words after a call are those of the stream that the library's own definition gives; a call of one end looks at the words of that end alone, and
-- changes no others.
use Rattle.std.specs.Prelude.{ℕ, ◌&&◌, List, length, eqb, Option, Result, Ok, Err, ⊤}
use Rattle.config.specs.declared.refusal.Refusal.{Refusal}
use Rattle.receiver.specs.declared.receiver.Delivery.{Delivery}
use Rattle.receiver.specs.declared.receiver.StreamEvent.{StreamEvent}
use Rattle.sender.specs.declared.sender.RequestOutcome.{RequestOutcome}
use Rattle.stream.specs.declared.stream.StreamAnswer.{StreamAnswer}
use Rattle.stream.specs.Ends.{send_answer, data_answer, request_answer, error_answer, nak_answer, poll_answer, take_answer}
use Rattle.stream.specs.Answers.{new_answer, reset_answer, deadline_answer, wants_answer}
use Rattle.stream.specs.Writing.{write_answer}
use Rattle.stream.specs.declared.stream.DataStream.{DataStream}
use Rattle.stream.specs.declared.stream.Wrote.{Wrote}
use Rattle.stream.specs.declared.stream.RequestWritten.{RequestWritten}
use Rattle.c_state.specs.Stream.{stream_words, fits, receiver_fits, sender_fits, loaded, stored, with_receiver, with_sender}
use Rattle.c_words.specs.Entry.{words_entry, on_words}
use Rattle.c_words.specs.Settings.{settings_check, settings_of}
use Rattle.c_words.specs.Payload.{payload_fits, payload_in, payload_words}
use Rattle.c_answers.specs.Answers.{delivery_of, delivery_refused, written_of, written_refused, outcome_of, outcome_refused, event_of, event_refused, request_of, request_refused, deadline_of, deadline_refused, wants_of, wants_refused}
use Rattle.c_answers.specs.declared.answers.CDelivery.{CDelivery}
use Rattle.c_answers.specs.declared.answers.CWritten.{CWritten}
use Rattle.c_answers.specs.declared.answers.COutcome.{COutcome}
use Rattle.c_answers.specs.declared.answers.CEvent.{CEvent}
use Rattle.c_answers.specs.declared.answers.CRequest.{CRequest}
use Rattle.c_answers.specs.declared.answers.CDeadline.{CDeadline}
use Rattle.c_answers.specs.declared.answers.CWants.{CWants}
use Rattle.config.specs.Refusals.{number_of, outcome_number}

-- ---- both ends: the answer's number, the stream's words and the lent history
-- a start that is refused leaves the words and the history as they were
abbrev pub started_into : Result ⊤ Refusal → DataStream → List ℕ → List ℕ → List ℕ → ℕ × List ℕ × List ℕ
started_into (Ok _) stream after st ring = (0, stored stream, after)
started_into (Err why) stream after st ring = (number_of why, st, ring)

-- the lent history is the whole of its slice
unfoldable pub new_export : List ℕ → List ℕ → ℕ → ℕ → List ℕ → ℕ × List ℕ × List ℕ
new_export st cfg window places ring =
    let e = new_answer (settings_of cfg) window (length ring) places ring in
    words_entry (settings_check cfg) (eqb (length st) stream_words) (λ n. (n, st, ring)) (started_into e.0.answer e.0.stream e.1 st ring)

abbrev reset_into : StreamAnswer ⊤ × List ℕ → ℕ × List ℕ × List ℕ
reset_into e = (outcome_number e.0.answer, stored e.0.stream, e.1)

unfoldable pub reset_export : List ℕ → List ℕ → ℕ × List ℕ × List ℕ
reset_export st ring = on_words (fits st) (λ n. (n, st, ring)) (reset_into (reset_answer (loaded st) ring))

-- ---- the sender's calls
abbrev sent_into : List ℕ → StreamAnswer ⊤ × List ℕ → ℕ × List ℕ × List ℕ
sent_into st e = (outcome_number e.0.answer, with_sender st e.0.stream.sender, e.1)

unfoldable pub send_export : List ℕ → List ℕ → List ℕ → List ℕ → ℕ × List ℕ × List ℕ
send_export st cfg ring ws =
    words_entry (settings_check cfg) (sender_fits st) (λ n. (n, st, ring)) (sent_into st (send_answer (loaded st) (settings_of cfg) ring ws))

abbrev requested_into : List ℕ → StreamAnswer RequestOutcome → COutcome × List ℕ
requested_into st e = (outcome_of e.answer, with_sender st e.stream.sender)

unfoldable pub request_export : List ℕ → List ℕ → List ℕ → ℕ → ℕ → COutcome × List ℕ
request_export st cfg ring seq count =
    words_entry (settings_check cfg) (sender_fits st) (λ n. (outcome_refused n, st))
    (requested_into st (request_answer (loaded st) (settings_of cfg) ring record { seq = seq; count = count }))

-- ---- the receiver's calls
abbrev heard_into : List ℕ → StreamAnswer Delivery → CDelivery × List ℕ
heard_into st e = (delivery_of e.answer, with_receiver st e.stream.receiver)

unfoldable pub data_export : List ℕ → List ℕ → ℕ → ℕ → CDelivery × List ℕ
data_export st cfg time seq =
    words_entry (settings_check cfg) (receiver_fits st) (λ n. (delivery_refused n, st)) (heard_into st (data_answer (loaded st) (settings_of cfg) time seq))

abbrev told_into : List ℕ → StreamAnswer (Option StreamEvent) → CEvent × List ℕ
told_into st e = (event_of e.answer, with_receiver st e.stream.receiver)

unfoldable pub error_export : List ℕ → ℕ → ℕ → CEvent × List ℕ
error_export st reason seq =
    on_words (receiver_fits st) (λ n. (event_refused n, st)) (told_into st (error_answer (loaded st) record { reason = reason; seq = seq }))

unfoldable pub nak_export : List ℕ → CEvent × List ℕ
nak_export st = on_words (receiver_fits st) (λ n. (event_refused n, st)) (told_into st (nak_answer (loaded st)))

unfoldable pub poll_export : List ℕ → List ℕ → ℕ → CEvent × List ℕ
poll_export st cfg time =
    words_entry (settings_check cfg) (receiver_fits st) (λ n. (event_refused n, st)) (told_into st (poll_answer (loaded st) (settings_of cfg) time))

-- the answer, the stream's words, the payload's words and its bytes
abbrev taken_into : List ℕ → RequestWritten × List ℕ → CRequest × List ℕ × List ℕ × List ℕ
taken_into st e = (request_of e.0.answer, with_receiver st e.0.stream.receiver, payload_words e.0.payload, e.1)

unfoldable pub take_export : List ℕ → List ℕ → List ℕ → List ℕ → CRequest × List ℕ × List ℕ × List ℕ
take_export st cfg p b =
    words_entry (settings_check cfg) (receiver_fits st && payload_fits p) (λ n. (request_refused n, st, p, b))
    (taken_into st (take_answer (loaded st) (settings_of cfg) (payload_in p) b))

-- ---- both ends again: a write, and questions
-- the answer, the stream's words, the payload's words, its bytes and the lent history
abbrev wrote_into : Wrote × List ℕ × List ℕ → CWritten × List ℕ × List ℕ × List ℕ × List ℕ
wrote_into e = (written_of e.0.answer, stored e.0.stream, payload_words e.0.payload, e.1, e.2)

unfoldable pub write_export : List ℕ → List ℕ → ℕ → List ℕ → List ℕ → List ℕ → CWritten × List ℕ × List ℕ × List ℕ × List ℕ
write_export st cfg time p b ring =
    words_entry (settings_check cfg) (fits st && payload_fits p) (λ n. (written_refused n, st, p, b, ring))
    (wrote_into (write_answer (loaded st) (settings_of cfg) time (payload_in p) b ring))

unfoldable pub deadline_export : List ℕ → List ℕ → CDeadline
deadline_export st ring = on_words (fits st) deadline_refused (deadline_of (deadline_answer (loaded st) ring))

unfoldable pub wants_export : List ℕ → List ℕ → ℕ → CWants
wants_export st ring time = on_words (fits st) wants_refused (wants_of (wants_answer (loaded st) ring time))
