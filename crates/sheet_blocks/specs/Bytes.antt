-- Bytes in lent memory; numbers of four bytes, big-endian. Words and bytes are natural numbers.
use Rattle.std.specs.Prelude.{ℕ, ◌+◌, ◌/◌, ◌%◌, List, ◌∷◌, ◌++◌, length, take, drop}

-- the four bytes of a word, before what follows them
abbrev pub word_bytes : ℕ → List ℕ → List ℕ
word_bytes w rest = w / 16777216 ∷ w / 65536 % 256 ∷ w / 256 % 256 ∷ w % 256 ∷ rest

-- a buffer with the bytes xs from index i on, every other byte as it was
unfoldable pub spliced : List ℕ → ℕ → List ℕ → List ℕ
spliced b i xs = take i b ++ xs ++ drop (i + length xs) b
