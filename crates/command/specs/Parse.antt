-- 01, "Numbers of each operation", Read: 10 when a Request or Error has no word; lower halves and further words are ignored; other codes are handed on raw.
use Rattle.std.specs.Prelude.{ℕ, ◌/◌, cond, List, [], ◌∷◌, eqb, Result, Ok, Err}
use Rattle.config.specs.declared.refusal.Refusal.{Refusal}
use Rattle.config.specs.declared.refusal.Refusal.TheVariants.{Malformed}
use Rattle.packet.specs.Read.{csd_of}
use Rattle.packet.specs.declared.cursor.Header.{Header}
use Rattle.command.specs.declared.parse.Command.{Command}
use Rattle.command.specs.declared.parse.Command.TheVariants.{UmpData, RetransmitRequest, RetransmitError, Raw}

abbrev pub request_in : Header → List ℕ → Result Command Refusal
request_in h [] = Err Malformed
request_in h (w ∷ ws) = Ok (RetransmitRequest record { seq = csd_of h; count = w / 65536 })

abbrev pub error_in : Header → List ℕ → Result Command Refusal
error_in h [] = Err Malformed
error_in h (w ∷ ws) = Ok (RetransmitError record { reason = h.csd1; seq = w / 65536 })

unfoldable pub parsed_of : Header → List ℕ → Result Command Refusal
parsed_of h ws =
    cond (eqb h.code 0xFF) (Ok (UmpData record { seq = csd_of h }))
    (cond (eqb h.code 0x80) (request_in h ws)
    (cond (eqb h.code 0x81) (error_in h ws)
    (Ok (Raw h))))
