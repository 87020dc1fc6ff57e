-- 01, "Numbers of each operation", Read: the commands of a payload in their order, each given to its end and answered in four words; a cut command has an answer, and ends the reading.
use Rattle.std.specs.Prelude.{ℕ, zero, suc, ◌+◌, ◌*◌, ◌/◌, Bool, true, false, cond, List, [], ◌∷◌, length, leb}
use Rattle.config.specs.declared.settings.StreamConfig.{StreamConfig}
use Rattle.packet.specs.Bytes.{words_of, spliced}
use Rattle.packet.specs.Read.{csd_of, next_of, body_of}
use Rattle.packet.specs.declared.cursor.Header.{Header}
use Rattle.packet.specs.declared.cursor.PacketItem.{PacketItem}
use Rattle.packet.specs.declared.cursor.PacketItem.TheVariants.{Command as WholeCommand, Truncated, End}
use Rattle.command.specs.Parse.{parsed_of}
use Rattle.read_command.specs.Next.{read_of, command_read}
use Rattle.c_hearing.specs.Figures.{read_word, number_figures}
use Rattle.c_hearing.specs.Given.{given_of}
use Rattle.c_hearing.specs.declared.figures.Figures.{Figures}
use Rattle.c_hearing.specs.declared.walk.Turn.{Turn}
use Rattle.c_hearing.specs.declared.walk.CHeard.{CHeard}

-- ---- an answer
-- behind k others: the command's place, the command as it was read, and the two words of the answer
unfoldable pub answered : List ℕ → ℕ → ℕ → ℕ → Figures → List ℕ
answered out k place read f = spliced out (4 * k) (place ∷ read ∷ f.first ∷ f.second ∷ [])

-- no room behind k answers
abbrev pub full : List ℕ → ℕ → Bool
full out k = leb (length out / 4) k

-- ---- one command
-- hearing ends with k answers; n is the place of the first command that was not heard, or 0
abbrev pub ended : ℕ → ℕ → Turn
ended n k = record { ends = true; next = n; count = k }

-- hearing goes on at place n
abbrev pub goes_on : ℕ → ℕ → Turn
goes_on n k = record { ends = false; next = n; count = k }

-- a cut command at place `at`
unfoldable pub cut_turn : Header → ℕ → ℕ → List ℕ → Turn × List ℕ
cut_turn h at k out =
    cond (full out k) (ended at k, out)
    (ended 0 (k + 1), answered out k at (read_word (read_of 0 1 h.code h.len (csd_of h) 0)) (number_figures 0))

-- a whole command at place `at`, with its words; the next stands at place n
unfoldable pub whole_turn : StreamConfig → ℕ → List ℕ → Header → ℕ → ℕ → List ℕ → ℕ → List ℕ → List ℕ → Turn × List ℕ × List ℕ
whole_turn cfg time ring h at n ws k st out =
    let c = parsed_of h ws in
    let g = given_of st cfg time ring c in
    cond (full out k) (ended at k, st, out)
    (goes_on n (k + 1), g.1, answered out k at (read_word (command_read h.len 0 0 c)) g.0)

-- what stands at a place of the payload b; then the stream's words, and those of the answers
abbrev pub turn_at : PacketItem → StreamConfig → ℕ → List ℕ → List ℕ → ℕ → ℕ → List ℕ → List ℕ → Turn × List ℕ × List ℕ
turn_at End cfg time ring b at k st out = (ended 0 k, st, out)
turn_at (Truncated h) cfg time ring b at k st out = let t = cut_turn h at k out in (t.0, st, t.1)
turn_at (WholeCommand h place next) cfg time ring b at k st out = whole_turn cfg time ring h place next.at (words_of (body_of b place h)) k st out

-- ---- all commands
abbrev pub heard_to : ℕ → ℕ → CHeard
heard_to n k = record { next = n; count = k; refusal = 0 }

-- from place `at` on and behind k answers, in at most so many commands
unfoldable pub hear_from : ℕ → StreamConfig → ℕ → List ℕ → List ℕ → ℕ → ℕ → List ℕ → List ℕ → CHeard × List ℕ × List ℕ
hear_from zero cfg time ring b at k st out = (heard_to 0 k, st, out)
hear_from (suc f) cfg time ring b at k st out =
    let t = turn_at (next_of b at) cfg time ring b at k st out in
    cond t.0.ends (heard_to t.0.next t.0.count, t.1, t.2)
    (hear_from f cfg time ring b t.0.next t.0.count t.1 t.2)
