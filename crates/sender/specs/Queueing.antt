-- 01, "Queue words", over settings and a state that were tested.
use Rattle.std.specs.Prelude.{ℕ, ◌+◌, ◌-◌, cond, not, List, [], ◌∷◌, length, ltb, eqb, Result, Ok, Err, ⊤}
use Rattle.sender.specs.declared.sender.SenderAnswer.{SenderAnswer}
use Rattle.config.specs.Settings.{tested}
use Rattle.config.specs.declared.refusal.Refusal.{Refusal}
use Rattle.config.specs.declared.refusal.Refusal.TheVariants.{InvalidUmpData, TooLarge, Full}
use Rattle.command.specs.Messages.{whole_of}
use Rattle.history.specs.Headers.{length_at}
use Rattle.history.specs.Push.{pushed, appended}
use Rattle.history.specs.declared.history.SendHistory.{SendHistory}
use Rattle.fronts.specs.Commands.{front, behind, commands_of, above}
use Rattle.sender.specs.declared.sender.Sender.{Sender}

-- the words that the newest unwritten command still takes; none when nothing is unwritten
unfoldable pub room_of : Sender → List ℕ → ℕ → ℕ
room_of s ring max = cond (eqb s.unsent 0) 0 (max - length_at ring s.history.last)

-- the words that join it, and the further commands
abbrev pub joining : Sender → List ℕ → ℕ → List ℕ → List ℕ
joining s ring max ws = front (room_of s ring max) ws

abbrev pub further : Sender → List ℕ → ℕ → List ℕ → List (List ℕ)
further s ring max ws = commands_of max (behind (room_of s ring max) ws)

-- words and new headers
unfoldable pub need_of : Sender → List ℕ → ℕ → List ℕ → ℕ
need_of s ring max ws = length ws + length (further s ring max ws)

-- the history and its words after words have joined the newest command
unfoldable pub joined_to : SendHistory → List ℕ → List ℕ → SendHistory × List ℕ
joined_to h ring [] = (h, ring)
joined_to h ring (w ∷ ws) = appended h ring (w ∷ ws)

-- and after further commands, one after the other
unfoldable pub pushed_all : SendHistory → List ℕ → List (List ℕ) → SendHistory × List ℕ
pushed_all h ring [] = (h, ring)
pushed_all h ring (c ∷ cs) = pushed_all (pushed h ring c).0 (pushed h ring c).1 cs

unfoldable pub queued_to : Sender → List ℕ → ℕ → List ℕ → SendHistory × List ℕ
queued_to s ring max ws =
    let j = joined_to s.history ring (joining s ring max ws) in
    pushed_all j.0 j.1 (further s ring max ws)

-- the new commands are unwritten, and so are the words and the new headers
abbrev pub holding : Sender → SendHistory → ℕ → ℕ → Sender
holding s h commands need =
    record { history = h; queue = s.queue; unsent = s.unsent + commands; unsent_words = s.unsent_words + need; idle = s.idle }

abbrev pub sent : Sender → Result ⊤ Refusal → SenderAnswer ⊤
sent s a = record { sender = s; answer = a }

abbrev pub unsent : Sender → List ℕ → Refusal → SenderAnswer ⊤ × List ℕ
unsent s ring why = (sent s (Err why), ring)

unfoldable pub queued_of : Sender → List ℕ → ℕ → List ℕ → SenderAnswer ⊤ × List ℕ
queued_of s ring max ws =
    let q = queued_to s ring max ws in
    (sent (holding s q.0 (length (further s ring max ws)) (need_of s ring max ws)) (Ok tt), q.1)

-- 5 not whole messages; 3 a message above the set size
unfoldable pub words_check : ℕ → List ℕ → Result ⊤ Refusal
words_check max ws =
    cond (not (whole_of ws)) (Err InvalidUmpData)
    (cond (above max ws) (Err TooLarge)
    (Ok tt))

-- 6 words and new headers exceed the history less unwritten words and their headers
unfoldable pub placed_of : Sender → List ℕ → ℕ → List ℕ → SenderAnswer ⊤ × List ℕ
placed_of s ring max ws =
    cond (ltb (s.history.size - s.unsent_words) (need_of s ring max ws)) (unsent s ring Full)
    (queued_of s ring max ws)

-- an empty list is accepted and changes nothing
unfoldable pub sent_of : Sender → List ℕ → ℕ → List ℕ → SenderAnswer ⊤ × List ℕ
sent_of s ring max ws =
    cond (eqb (length ws) 0) (sent s (Ok tt), ring)
    (tested (words_check max ws) (unsent s ring)
    (placed_of s ring max ws))
