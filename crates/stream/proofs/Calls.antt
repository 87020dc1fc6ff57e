-- A write is made of its ends' calls: their tests are passed, and the payload is still valid after the first.
use Prim.Native.Nat.{ℕ}
use Rattle.std.proofs.Common.{Ok}
use mathlib.Core.Path.{◌≡◌, sym}
use mathlib.Core.Bool.{true}
use mathlib.Core.List.{List}
use lib.ListN.{length}
use Rattle.config.specs.Settings.{check_of}
use Rattle.config.specs.declared.settings.StreamConfig.{StreamConfig}
use Rattle.packet.specs.Write.{valid_of as payload_valid}
use Rattle.packet.specs.declared.writer.PayloadWriter.{PayloadWriter}
use Rattle.receiver.specs.Receiver.{taken_of}
use Rattle.receiver.specs.Answers.{take_answer}
use Rattle.receiver.specs.declared.receiver.RequestWritten.{RequestWritten}
use Rattle.writing.specs.Answers.{write_answer}
use Rattle.writing.specs.Writing.{written_by}
use Rattle.stream.specs.State.{valid_of}
use Rattle.stream.specs.Theorems.{WriteCallsEnds}
use Rattle.stream.specs.declared.stream.DataStream.{DataStream}
use Rattle.stream.proofs.Validity.{valid_receiver, valid_sender}
use Rattle.stream.proofs.Taking.{taken_valid}

taken_called : (s : DataStream) (cfg : StreamConfig) (p : PayloadWriter) (b ring : List ℕ) → check_of cfg ≡ Ok tt → valid_of s ring ≡ true → payload_valid p (length b) ≡ true
    → taken_of s.receiver cfg p b ≡ take_answer s.receiver cfg p b
unfolding take_answer
taken_called s cfg p b ring e v w = rw (e, valid_receiver s ring v, w)

write_called : (s : DataStream) (cfg : StreamConfig) (p : PayloadWriter) (b ring : List ℕ) → check_of cfg ≡ Ok tt → valid_of s ring ≡ true → payload_valid p (length b) ≡ true
    → (time : ℕ) (t : RequestWritten × List ℕ) → t ≡ taken_of s.receiver cfg p b
    → written_by s.sender cfg time t.0.payload t.1 ring ≡ write_answer s.sender cfg time t.0.payload t.1 ring
unfolding write_answer
write_called s cfg p b ring e v w time t is = rw (e, valid_sender s ring v, taken_valid s.receiver cfg p b w t.0 t.1 is)

pub write_calls_ends : WriteCallsEnds
write_calls_ends s cfg p b ring e v w =
    let t = taken_called s cfg p b ring e v w in
    record { take_request = t; write = λ time. write_called s cfg p b ring e v w time (take_answer s.receiver cfg p b) (sym t) }
