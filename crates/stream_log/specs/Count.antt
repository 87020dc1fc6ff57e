-- 01, "History, repeats, idle" and "A paragraph to the testers": the commands that a stream's write adds to a payload, read off its bytes.
use Rattle.std.specs.Prelude.{ℕ, List, ◌++◌}
use Rattle.config.specs.declared.settings.StreamConfig.{StreamConfig}
use Rattle.packet.specs.Layout.{Packet}
use Rattle.packet.specs.declared.writer.PayloadWriter.{PayloadWriter}
use Rattle.receiver_log.specs.Promise.{log_of}
use Rattle.sender_log.specs.Calls.{TypedConfig}
use Rattle.sender_log.specs.Past.{past_of}
use Rattle.sender_log.specs.Counted.{wanted_in, CountedIn}
use Rattle.stream.specs.Writing.{write_answer}
use Rattle.stream_log.specs.Calls.{Call, AllTyped, run}
use Rattle.stream_log.specs.Ends.{Ends, taken_after, ends_of}
use Rattle.stream_log.specs.Answers.{request_wanted}
use Rattle.stream_log.specs.Promise.{Started}

-- a payload takes a due request, retransmits, then up to R of the last written commands, then new ones
unfoldable pub wanted_of : ℕ → ℕ → ℕ → List ℕ → Ends → StreamConfig → ℕ → PayloadWriter → List ℕ → List Packet
wanted_of W c q ring₀ e cfg time p b =
    let t = taken_after W e.received cfg p b in
    request_wanted W (log_of W e.received) cfg ++ wanted_in c cfg time (past_of c q ring₀ e.sent) t.0.payload t.1

-- every write after every list of calls, into any payload
abbrev pub StreamCounted : Type 0
StreamCounted =
    (start : StreamConfig) (W c q : ℕ) (ring₀ : List ℕ) → Started start W c q ring₀ → (calls : List Call) → AllTyped calls
    → (cfg : StreamConfig) → TypedConfig cfg → (time : ℕ) (p : PayloadWriter) (b : List ℕ)
    → (let u = run start W c q ring₀ calls in
    let w = write_answer u.stream cfg time p b u.ring in
    CountedIn (wanted_of W c q ring₀ (ends_of W calls) cfg time p b) p b w.0.answer w.0.payload w.1)
