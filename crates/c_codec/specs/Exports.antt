-- 01, "From the packet up" and "State test": a call is refused by 13 for words that are no payload's, and nothing is changed then. Else the words after it are those of the
-- payload that the library's own definition gives.
use Rattle.std.specs.Prelude.{ℕ, List, Result, Ok, Err}
use Rattle.config.specs.declared.refusal.Refusal.{Refusal}
use Rattle.config.specs.Refusals.{number_of, outcome_number}
use Rattle.packet.specs.Write.{opened_of}
use Rattle.packet.specs.declared.writer.PayloadWriter.{PayloadWriter}
use Rattle.packet.specs.declared.writer.Wrote.{Wrote}
use Rattle.c_words.specs.Entry.{on_words}
use Rattle.c_words.specs.Payload.{payload_fits, payload_in, payload_words}

-- ---- a write of one command: the answer's number, the payload's words and its bytes
abbrev command_into : Wrote × List ℕ → ℕ × List ℕ × List ℕ
command_into e = (outcome_number e.0.answer, payload_words e.0.payload, e.1)

unfoldable pub command_export : (PayloadWriter → Wrote × List ℕ) → List ℕ → List ℕ → ℕ × List ℕ × List ℕ
command_export write p b = on_words (payload_fits p) (λ n. (n, p, b)) (command_into (write (payload_in p)))

-- a payload that is not opened leaves the words as they were
abbrev pub opened_into : Result PayloadWriter Refusal → List ℕ → ℕ × List ℕ
opened_into (Ok w) p = (0, payload_words w)
opened_into (Err why) p = (number_of why, p)

unfoldable pub open_export : List ℕ → ℕ → ℕ × List ℕ
open_export p max = on_words (payload_fits p) (λ n. (n, p)) (opened_into (opened_of max) p)
