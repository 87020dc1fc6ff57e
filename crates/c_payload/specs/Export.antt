-- 01, "From the packet up": a payload is opened, and a data command is written into it.
use Rattle.std.specs.Prelude.{ℕ, List, Result, Ok, Err, ⊤}
use Rattle.config.specs.declared.refusal.Refusal.{Refusal}
use Rattle.packet.specs.declared.writer.PayloadWriter.{PayloadWriter}
use Rattle.config.specs.Refusals.{number_of}
use Rattle.packet.specs.Write.{opened_of}
use Rattle.packet.specs.declared.writer.Wrote.{Wrote}
use Rattle.command.specs.Write.{data_written}
use Rattle.c_payload.specs.declared.CMade.{CMade}

abbrev pub refused_by : ℕ → CMade
refused_by n = record { len = 0; refusal = n }

abbrev pub made_by : Result ⊤ Refusal → ℕ → CMade
made_by (Ok _) len = record { len = len; refusal = 0 }
made_by (Err why) len = refused_by (number_of why)

abbrev pub made_of : Wrote → CMade
made_of e = made_by e.answer e.payload.len

-- the answer and the buffer; a payload that is not opened leaves the buffer as it was
abbrev made_into : Wrote × List ℕ → CMade × List ℕ
made_into e = (made_of e.0, e.1)

abbrev pub payload_by : Result PayloadWriter Refusal → List ℕ → ℕ → List ℕ → CMade × List ℕ
payload_by (Ok p) b seq ws = made_into (data_written p b seq ws)
payload_by (Err why) b seq ws = (refused_by (number_of why), b)

unfoldable pub payload_export : List ℕ → ℕ → ℕ → List ℕ → CMade × List ℕ
payload_export b max seq ws = payload_by (opened_of max) b seq ws
