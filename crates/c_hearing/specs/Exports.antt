-- Hearing a payload in one call, on words: refused by the settings' number first, then by 13 for words that are no stream's, then by 1 for a payload without its signature; nothing
-- is changed then. Else every command from a place on is given to its end, one by one.
use Rattle.std.specs.Prelude.{ℕ, ◌/◌, cond, not, ◌||◌, List, length, eqb}
use Rattle.config.specs.Refusals.{number_of}
use Rattle.config.specs.declared.refusal.Refusal.TheVariants.{BadSignature}
use Rattle.packet.specs.Read.{signed}
use Rattle.read_command.specs.Next.{first_of}
use Rattle.c_words.specs.Entry.{words_entry}
use Rattle.c_words.specs.Settings.{settings_check, settings_of}
use Rattle.c_state.specs.Stream.{fits}
use Rattle.c_hearing.specs.Walk.{hear_from}
use Rattle.c_hearing.specs.declared.walk.CHeard.{CHeard}

abbrev pub heard_refused : ℕ → CHeard
heard_refused n = record { next = 0; count = 0; refusal = n }

-- 0 stands for the first command's place: there the payload is opened, and refused without its signature
unfoldable pub opened_at : {A : Type 0} → List ℕ → ℕ → (ℕ → A) → A → A
opened_at b at refused hear = cond (not (eqb at 0) || signed b) hear (refused (number_of BadSignature))

-- a command has four bytes or more: there are no more than a quarter of the payload's bytes
unfoldable pub hear_export : List ℕ → List ℕ → ℕ → List ℕ → List ℕ → ℕ → List ℕ → CHeard × List ℕ × List ℕ
hear_export st cfg time ring b at out =
    let refused : ℕ → CHeard × List ℕ × List ℕ = λ n. (heard_refused n, st, out) in
    words_entry (settings_check cfg) (fits st) refused
    (opened_at b at refused (hear_from (length b / 4) (settings_of cfg) time ring b (first_of at) 0 st out))
