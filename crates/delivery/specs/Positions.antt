-- 01, "The runs of demand 3": a sender's positions, of the data commands that its writes add, in order.
use Rattle.std.specs.Prelude.{ℕ, ◌-◌, ◌%◌, Bool, cond, List, [], ◌∷◌, ◌++◌, eqb, length}
use Rattle.config.specs.Sequence.{turn, ahead}
use Rattle.delivery.specs.Commands.{Command}

-- one whose number is the count of positions so far, modulo 65,536, opens the next
unfoldable pub opens : ℕ → ℕ → Bool
opens count number = eqb number (count % turn)

-- the words of the positions that commands open, from position 0 on; the newest command stands first
abbrev pub contents : List Command → List (List ℕ)
contents [] = []
contents (k ∷ w) = cond (opens (length (contents w)) k.number) (contents w ++ (k.words ∷ [])) (contents w)

-- the newest position with a number, of a count of positions
unfoldable pub newest_with : ℕ → ℕ → ℕ
newest_with count number = count - 1 - ahead number ((count - 1) % turn)

-- the position of a command that is written after others: the next, or any other repeats the newest position with its number
unfoldable pub position : List Command → Command → ℕ
position w k = cond (opens (length (contents w)) k.number) (length (contents w)) (newest_with (length (contents w)) k.number)

-- the command of a position, with its words
abbrev pub numbered : ℕ → List ℕ → Command
numbered p ws = record { number = p % turn; words = ws }
