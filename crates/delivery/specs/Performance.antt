-- 02, 13/14: two performances are equal exactly when their messages are, their division into commands is, and the Zero Length Commands written stand at the same positions.
-- Each is read off a console's log: what was accepted, and the positions of what was written, which repeats and retransmits don't change.
use Rattle.std.specs.Prelude.{ℕ, suc, ◌≡◌, List, [], ◌∷◌, length}
use Rattle.delivery.specs.Console.{Entry, accepted, positions}

-- how many words each command with words has, in order
abbrev pub lengths_in : List (List ℕ) → List ℕ
lengths_in [] = []
lengths_in ([] ∷ C) = lengths_in C
lengths_in ((w ∷ ws) ∷ C) = length (w ∷ ws) ∷ lengths_in C

-- the positions, from p on, of the commands without words
abbrev pub empty_from : ℕ → List (List ℕ) → List ℕ
empty_from p [] = []
empty_from p ([] ∷ C) = p ∷ empty_from (suc p) C
empty_from p ((w ∷ ws) ∷ C) = empty_from (suc p) C

-- the messages, as a list of words
abbrev pub messages : List Entry → List ℕ
messages t = accepted t

-- their division into commands
abbrev pub division : List Entry → List ℕ
division t = lengths_in (positions t)

-- where the Zero Length Commands written stand
abbrev pub zero_length : List Entry → List ℕ
zero_length t = empty_from 0 (positions t)

-- of two consoles' logs
pub record SamePerformance (t s : List Entry) : Type 0 where
  pub same_messages : messages t ≡ messages s
  pub same_division : division t ≡ division s
  pub same_zero_length : zero_length t ≡ zero_length s
