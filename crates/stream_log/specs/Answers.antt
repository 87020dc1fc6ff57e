-- What the next call answers, from the past calls of both ends alone (crates receiver_log and sender_log). The stream's state is never refused: 13 is left for a
-- payload's.
use Rattle.std.specs.Prelude.{ℕ, ◌+◌, Bool, true, cond, not, ◌||◌, ◌&&◌, List, [], ◌∷◌, ltb, eqb, length, Option, Some, None, Result, Ok, Err}
use Rattle.window.specs.declared.window.SeqRange.{SeqRange}
use Rattle.writing.specs.declared.writing.Written.{Written}
use Rattle.config.specs.Entry.{entry}
use Rattle.config.specs.Settings.{check_of}
use Rattle.config.specs.declared.refusal.Refusal.{Refusal}
use Rattle.config.specs.declared.refusal.Refusal.TheVariants.{TooLarge}
use Rattle.config.specs.declared.settings.StreamConfig.{StreamConfig}
use Rattle.packet.specs.Layout.{Packet, size_of}
use Rattle.packet.specs.Write.{limit_of, start_of, written_of, valid_of as payload_valid}
use Rattle.packet.specs.declared.writer.PayloadWriter.{PayloadWriter}
use Rattle.command.specs.Write.{request_packet}
use Rattle.idle.specs.Schedule.{is_due}
use Rattle.receiver.specs.Receiver.{deadline_at}
use Rattle.receiver_log.specs.Calls as Receiver
use Rattle.receiver_log.specs.Log.{reports}
use Rattle.receiver_log.specs.Spans.{request_in}
use Rattle.receiver_log.specs.Timing.{timer_in, due_in, enabled_in}
use Rattle.receiver_log.specs.Answers.{answer_of as receiver_answer}
use Rattle.receiver_log.specs.Promise.{log_of}
use Rattle.sender.specs.Requests.{due_at}
use Rattle.sender_log.specs.Book.{Book}
use Rattle.sender_log.specs.Writes.{is_empty, write_in}
use Rattle.sender_log.specs.Calls as Sender
use Rattle.sender_log.specs.Answers.{told_of, book_of}
use Rattle.stream.specs.Answers.{earlier}
use Rattle.stream.specs.Writing.{counted_also}
use Rattle.stream_log.specs.Calls.{Call, send_ump, on_retransmit_request, on_ump_data, on_retransmit_error, on_retransmit_nak, poll, write_request, write_data, next_deadline, wants_write, reset, Entry, by_sender, by_receiver, wrote, deadline, wants, was_reset}
use Rattle.stream_log.specs.Ends.{Ends, ends_after}

-- ---- a write

-- the answer, the payload and its bytes
pub record Out : Type 0 where
  pub answer : (Result Written Refusal)
  pub payload : PayloadWriter
  pub bytes : List ℕ

abbrev pub refused_out : PayloadWriter → List ℕ → Refusal → Out
refused_out p b why = record { answer = Err why; payload = p; bytes = b }

abbrev pub more_out : PayloadWriter → List ℕ → Out
more_out p b = record { answer = Ok record { commands = 0; more = true }; payload = p; bytes = b }

-- the sender's write, behind n commands
abbrev pub sent_out : ℕ → ℕ → Book → StreamConfig → ℕ → PayloadWriter → List ℕ → Out
sent_out n c k cfg time p b = let w = write_in c cfg time k p b in record { answer = counted_also n w.answer; payload = w.payload; bytes = w.bytes }

abbrev pub as_command : Option SeqRange → List Packet
as_command None = []
as_command (Some range) = request_packet record { seq = range.first; count = range.count } ∷ []

-- a due request; dropped if requests are disabled or nothing is missing
unfoldable pub request_wanted : ℕ → List Receiver.Entry → StreamConfig → List Packet
request_wanted W t cfg = cond (due_in W t && enabled_in t cfg) (as_command (request_in W (reports t))) []

-- 3 when the payload is empty and the due request doesn't fit; not fitting a nonempty payload is no refusal but "more"
abbrev pub request_first : ℕ → Book → StreamConfig → ℕ → PayloadWriter → List ℕ → List Packet → Out
request_first c k cfg time p b [] = sent_out 0 c k cfg time p b
request_first c k cfg time p b (request ∷ none) =
    let w = written_of p b request in
    cond (ltb (limit_of p (length b)) (start_of p + size_of request)) (cond (eqb p.len 0) (refused_out p b TooLarge) (more_out p b))
    (sent_out 1 c k cfg time w.0.payload w.1)

-- settings, then the payload
unfoldable pub write_out : ℕ → ℕ → List Receiver.Entry → Book → StreamConfig → ℕ → PayloadWriter → List ℕ → Out
write_out W c t k cfg time p b =
    entry (check_of cfg) (payload_valid p (length b)) (refused_out p b) (request_first c k cfg time p b (request_wanted W t cfg))

-- ---- questions

-- the earlier of the request timer's due time and, if no command is unwritten, that of an idle command
abbrev pub deadline_in : ℕ → List Receiver.Entry → Book → Result (Option ℕ) Refusal
deadline_in W t k = earlier (deadline_at (timer_in W t)) (cond (is_empty k.unwritten) (due_at k.idle) (Ok None))

-- a request is due, a command is unwritten, a request waits, or an idle command is due
abbrev pub wants_in : ℕ → List Receiver.Entry → Book → ℕ → Bool
wants_in W t k time = due_in W t || (not (is_empty k.unwritten) || (not (is_empty k.waiting) || is_due k.idle time))

-- ---- all calls

-- those of one end: what that end answers
abbrev pub receiver_says : ℕ → Ends → Receiver.Call → Entry
receiver_says W e call = by_receiver (receiver_answer W (log_of W e.received) call)

abbrev pub sender_says : ℕ → ℕ → Ends → Sender.Call → Entry
sender_says c q e call = by_sender (told_of c q (book_of c q e.sent) call).entry

unfoldable pub answer_of : ℕ → ℕ → ℕ → Ends → Call → Entry
answer_of W c q e (send_ump cfg ws) = sender_says c q e (Sender.queue_words cfg ws)
answer_of W c q e (on_retransmit_request cfg r) = sender_says c q e (Sender.retransmit_request cfg r)
answer_of W c q e (on_ump_data cfg time seq ws) = receiver_says W e (Receiver.data_command cfg time seq ws)
answer_of W c q e (on_retransmit_error err) = receiver_says W e (Receiver.retransmit_error err)
answer_of W c q e on_retransmit_nak = receiver_says W e Receiver.nak
answer_of W c q e (poll cfg time) = receiver_says W e (Receiver.poll cfg time)
answer_of W c q e (write_request cfg p b) = receiver_says W e (Receiver.take_request cfg p b)
answer_of W c q e (write_data cfg time p b) =
    let w = write_out W c (log_of W e.received) (book_of c q e.sent) cfg time p b in
    wrote cfg time p b w.answer w.payload w.bytes
answer_of W c q e next_deadline = deadline (deadline_in W (log_of W e.received) (book_of c q e.sent))
answer_of W c q e (wants_write time) = wants time (Ok (wants_in W (log_of W e.received) (book_of c q e.sent) time))
answer_of W c q e reset = was_reset (Ok tt)

-- the log of a list of calls, from the calls alone
unfoldable pub said_from : ℕ → ℕ → ℕ → Ends → List Entry → List Call → List Entry
said_from W c q e t [] = t
said_from W c q e t (call ∷ calls) = said_from W c q (ends_after W e call) (answer_of W c q e call ∷ t) calls
