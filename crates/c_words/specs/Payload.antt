-- 01, "From the packet up": a payload that is being written, as two words: its length and its limit.
use Rattle.std.specs.Prelude.{ℕ, Bool, List, [], ◌∷◌, length, get_or, eqb}
use Rattle.packet.specs.declared.writer.PayloadWriter.{PayloadWriter}

abbrev pub payload_fits : List ℕ → Bool
payload_fits ws = eqb (length ws) 2

abbrev pub payload_in : List ℕ → PayloadWriter
payload_in ws = record { len = get_or ws 0 0; max = get_or ws 1 0 }

abbrev pub payload_words : PayloadWriter → List ℕ
payload_words p = p.len ∷ p.max ∷ []
