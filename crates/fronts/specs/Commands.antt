-- 01, "History, repeats, idle": words join a command up to the set size, whole messages only, then open further commands.
use Rattle.std.specs.Prelude.{ℕ, zero, suc, ◌-◌, Bool, false, cond, ◌||◌, List, [], ◌∷◌, ◌++◌, length, drop, leb, ltb}
use Rattle.command.specs.Messages.{messages_of}

-- the messages at the front of the list that have at most n words together, as words
unfoldable pub fitting : ℕ → List (List ℕ) → List ℕ
fitting n [] = []
fitting n (m ∷ ms) = cond (leb (length m) n) (m ++ fitting (n - length m) ms) []

-- the whole messages at the front of the words that have at most n words together
unfoldable pub front : ℕ → List ℕ → List ℕ
front n ws = fitting n (messages_of ws).whole

-- what is left behind them
unfoldable pub behind : ℕ → List ℕ → List ℕ
behind n ws = drop (length (front n ws)) ws

-- words divided into commands, each the front of what is left; in at most so many
unfoldable pub commands_in : ℕ → ℕ → List ℕ → List (List ℕ)
commands_in zero max ws = []
commands_in (suc f) max [] = []
commands_in (suc f) max (w ∷ ws) = front max (w ∷ ws) ∷ commands_in f max (behind max (w ∷ ws))

unfoldable pub commands_of : ℕ → List ℕ → List (List ℕ)
commands_of max ws = commands_in (length ws) max ws

-- a message of more than `max` words is among them
unfoldable pub longer : ℕ → List (List ℕ) → Bool
longer max [] = false
longer max (m ∷ ms) = ltb max (length m) || longer max ms

-- 01, "Queue words", 3: a message above the set size
unfoldable pub above : ℕ → List ℕ → Bool
above max ws = longer max (messages_of ws).whole
