-- 01, "Numbers of each operation", Read: data ending inside a message gives its whole messages.
use Rattle.std.specs.Prelude.{ℕ, List, [], ◌∷◌, length}
use Rattle.command.specs.Messages.{messages_of, whole_words}

-- how many words the whole messages at the front have
abbrev pub whole_count : List ℕ → ℕ
whole_count ws = length (whole_words ws)

abbrev pub each_length : List (List ℕ) → List ℕ
each_length [] = []
each_length (m ∷ ms) = length m ∷ each_length ms

-- how many words each of them has
unfoldable pub lengths_of : List ℕ → List ℕ
lengths_of ws = each_length (messages_of ws).whole
