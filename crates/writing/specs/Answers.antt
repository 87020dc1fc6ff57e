-- 01, "Numbers of each operation": a write tests 9, 7, 8, then 13, the sender's state and the payload's. A refused write hands back all as it was.
use Rattle.std.specs.Prelude.{ℕ, ◌&&◌, List, length, Err}
use Rattle.config.specs.Entry.{entry}
use Rattle.config.specs.Settings.{check_of}
use Rattle.config.specs.declared.refusal.Refusal.{Refusal}
use Rattle.config.specs.declared.settings.StreamConfig.{StreamConfig}
use Rattle.packet.specs.Write.{valid_of as payload_valid}
use Rattle.packet.specs.declared.writer.PayloadWriter.{PayloadWriter}
use Rattle.sender.specs.State.{valid_of}
use Rattle.sender.specs.declared.sender.Sender.{Sender}
use Rattle.writing.specs.Writing.{written_by}
use Rattle.writing.specs.declared.writing.Wrote.{Wrote}

-- the sender with the payload, the payload's bytes and the lent history
abbrev pub write_refused : Sender → PayloadWriter → List ℕ → List ℕ → Refusal → Wrote × List ℕ × List ℕ
write_refused s p b ring why = (record { sender = s; payload = p; answer = Err why }, b, ring)

unfoldable pub write_answer : Sender → StreamConfig → ℕ → PayloadWriter → List ℕ → List ℕ → Wrote × List ℕ × List ℕ
write_answer s cfg time p b ring =
    entry (check_of cfg) (valid_of s ring && payload_valid p (length b)) (write_refused s p b ring) (written_by s cfg time p b ring)
