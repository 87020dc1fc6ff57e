-- 01, "The runs of demand 3": a stream's call counts as those calls of its ends that it makes.
use Rattle.std.specs.Prelude.{ℕ, List, [], ◌∷◌, ◌++◌, Result, Ok, Err}
use Rattle.config.specs.declared.refusal.Refusal.{Refusal}
use Rattle.config.specs.declared.settings.StreamConfig.{StreamConfig}
use Rattle.packet.specs.declared.writer.PayloadWriter.{PayloadWriter}
use Rattle.receiver.specs.Answers.{take_answer}
use Rattle.receiver.specs.declared.receiver.Request.{Request}
use Rattle.receiver.specs.declared.receiver.Request.TheVariants.{Nothing as NotDue, Written as Taken, More as NoSpace}
use Rattle.receiver.specs.declared.receiver.RequestWritten.{RequestWritten}
use Rattle.receiver_log.specs.Calls as Receiver
use Rattle.sender_log.specs.Calls as Sender
use Rattle.stream_log.specs.Calls.{Call, send_ump, on_retransmit_request, on_ump_data, on_retransmit_error, on_retransmit_nak, poll, write_request, write_data, next_deadline, wants_write, reset}

-- the calls of each end since the start or the last reset, in order
pub record Ends : Type 0 where
  pub received : List Receiver.Call
  pub sent : List Sender.Call

abbrev pub uncalled : Ends
uncalled = record { received = []; sent = [] }

abbrev pub receiving : Ends → Receiver.Call → Ends
receiving e c = record { received = e.received ++ (c ∷ []); sent = e.sent }

abbrev pub sending : Ends → Sender.Call → Ends
sending e c = record { received = e.received; sent = e.sent ++ (c ∷ []) }

-- a due request is taken by the receiver that its calls have left
abbrev pub taken_after : ℕ → List Receiver.Call → StreamConfig → PayloadWriter → List ℕ → RequestWritten × List ℕ
taken_after W calls cfg p b = take_answer (Receiver.run W calls).receiver cfg p b

-- a write is that, and then the sender's write into what it left, unless it was refused or found no space
abbrev pub unless_cut : Result Request Refusal → Ends → Sender.Call → Ends
unless_cut (Ok NotDue) e c = sending e c
unless_cut (Ok Taken) e c = sending e c
unless_cut (Ok NoSpace) e c = e
unless_cut (Err why) e c = e

unfoldable pub ends_after : ℕ → Ends → Call → Ends
ends_after W e (send_ump cfg ws) = sending e (Sender.queue_words cfg ws)
ends_after W e (on_retransmit_request cfg r) = sending e (Sender.retransmit_request cfg r)
ends_after W e (on_ump_data cfg time seq ws) = receiving e (Receiver.data_command cfg time seq ws)
ends_after W e (on_retransmit_error err) = receiving e (Receiver.retransmit_error err)
ends_after W e on_retransmit_nak = receiving e Receiver.nak
ends_after W e (poll cfg time) = receiving e (Receiver.poll cfg time)
ends_after W e (write_request cfg p b) = receiving e (Receiver.take_request cfg p b)
ends_after W e (write_data cfg time p b) =
    let t = taken_after W e.received cfg p b in
    unless_cut t.0.answer (receiving e (Receiver.take_request cfg p b)) (Sender.write cfg time t.0.payload t.1)
ends_after W e next_deadline = e
ends_after W e (wants_write time) = e
ends_after W e reset = uncalled

unfoldable pub ends_from : ℕ → Ends → List Call → Ends
ends_from W e [] = e
ends_from W e (c ∷ calls) = ends_from W (ends_after W e c) calls

-- of a stream with a window of W
abbrev pub ends_of : ℕ → List Call → Ends
ends_of W calls = ends_from W uncalled calls
