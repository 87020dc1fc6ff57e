-- 01, "Write the stream": a payload takes a due request, then what the sender writes. 3 when the payload is empty and the due request, or else the first
-- unwritten command, doesn't fit: in the second case a due request is dropped if requests are disabled or nothing is missing. Not fitting a nonempty payload is
-- no refusal but "more".
use Rattle.std.specs.Prelude.{ℕ, ◌+◌, true, ◌&&◌, List, length, Result, Ok, Err}
use Rattle.writing.specs.declared.writing.Written.{Written}
use Rattle.config.specs.Entry.{entry}
use Rattle.config.specs.Settings.{check_of}
use Rattle.config.specs.declared.refusal.Refusal.{Refusal}
use Rattle.config.specs.declared.settings.StreamConfig.{StreamConfig}
use Rattle.packet.specs.Write.{valid_of as payload_valid}
use Rattle.packet.specs.declared.writer.PayloadWriter.{PayloadWriter}
use Rattle.receiver.specs.Receiver.{taken_of}
use Rattle.receiver.specs.declared.receiver.Request.{Request}
use Rattle.receiver.specs.declared.receiver.Request.TheVariants.{Nothing as NotDue, Written as Taken, More as NoSpace}
use Rattle.writing.specs.Writing.{written_by}
use Rattle.stream.specs.State.{valid_of, with_sender, with_receiver}
use Rattle.stream.specs.declared.stream.DataStream.{DataStream}
use Rattle.stream.specs.declared.stream.Wrote.{Wrote}

abbrev pub refused_of : DataStream → PayloadWriter → Refusal → Wrote
refused_of s p why = record { stream = s; payload = p; answer = Err why }

-- the stream with the payload, the payload's bytes and the lent history
abbrev pub write_refused : DataStream → PayloadWriter → List ℕ → List ℕ → Refusal → Wrote × List ℕ × List ℕ
write_refused s p b ring why = (record { stream = s; payload = p; answer = Err why }, b, ring)

-- with n commands that were written before
abbrev pub counted_also : ℕ → Result Written Refusal → Result Written Refusal
counted_also n (Ok w) = Ok record { commands = n + w.commands; more = w.more }
counted_also n (Err why) = Err why

-- the sender's write, after n commands
unfoldable pub sent_after : ℕ → DataStream → StreamConfig → ℕ → PayloadWriter → List ℕ → List ℕ → Wrote × List ℕ × List ℕ
sent_after n s cfg time p b ring =
    let w = written_by s.sender cfg time p b ring in
    (record { stream = with_sender s w.0.sender; payload = w.0.payload; answer = counted_also n w.0.answer }, w.1, w.2)

-- a request that doesn't fit ends the write; one that was written is one command
abbrev pub after_request : Result Request Refusal → DataStream → StreamConfig → ℕ → PayloadWriter → List ℕ → List ℕ → Wrote × List ℕ × List ℕ
after_request (Err why) s cfg time p b ring = write_refused s p b ring why
after_request (Ok NoSpace) s cfg time p b ring =
    (record { stream = s; payload = p; answer = Ok record { commands = 0; more = true } }, b, ring)
after_request (Ok NotDue) s cfg time p b ring = sent_after 0 s cfg time p b ring
after_request (Ok Taken) s cfg time p b ring = sent_after 1 s cfg time p b ring

-- over settings, states and a payload that were tested
unfoldable pub data_written : DataStream → StreamConfig → ℕ → PayloadWriter → List ℕ → List ℕ → Wrote × List ℕ × List ℕ
data_written s cfg time p b ring =
    let t = taken_of s.receiver cfg p b in
    after_request t.0.answer (with_receiver s t.0.receiver) cfg time t.0.payload t.1 ring

unfoldable pub write_answer : DataStream → StreamConfig → ℕ → PayloadWriter → List ℕ → List ℕ → Wrote × List ℕ × List ℕ
write_answer s cfg time p b ring =
    entry (check_of cfg) (valid_of s ring && payload_valid p (length b)) (write_refused s p b ring) (data_written s cfg time p b ring)
