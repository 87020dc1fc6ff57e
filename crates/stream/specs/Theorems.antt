-- 01, "The runs of demand 3": a stream's call counts as those calls of its ends that it makes.
use Rattle.std.specs.Prelude.{ℕ, ◌≡◌, true, List, length, Ok}
use Rattle.config.specs.Settings.{check_of}
use Rattle.config.specs.declared.settings.StreamConfig.{StreamConfig}
use Rattle.packet.specs.Write.{valid_of as payload_valid}
use Rattle.packet.specs.declared.writer.PayloadWriter.{PayloadWriter}
use Rattle.receiver.specs.Receiver.{taken_of}
use Rattle.receiver.specs.Answers.{take_answer}
use Rattle.writing.specs.Writing.{written_by}
use Rattle.writing.specs.Answers as writing
use Rattle.stream.specs.State.{valid_of}
use Rattle.stream.specs.declared.stream.DataStream.{DataStream}

-- A write that passes its tests is the receiver's call that takes a due request, and then the sender's write, on the payload that the first left.
-- (The other calls of one end are that end's by definition.)
pub record EndsCalled (s : DataStream) (cfg : StreamConfig) (p : PayloadWriter) (b ring : List ℕ) : Type 0 where
  pub take_request : taken_of s.receiver cfg p b ≡ take_answer s.receiver cfg p b
  pub write : (time : ℕ) → let t = take_answer s.receiver cfg p b in
      written_by s.sender cfg time t.0.payload t.1 ring ≡ writing.write_answer s.sender cfg time t.0.payload t.1 ring

abbrev pub WriteCallsEnds : Type 0
WriteCallsEnds =
    (s : DataStream) (cfg : StreamConfig) (p : PayloadWriter) (b ring : List ℕ)
    → check_of cfg ≡ Ok tt → valid_of s ring ≡ true → payload_valid p (length b) ≡ true → EndsCalled s cfg p b ring
