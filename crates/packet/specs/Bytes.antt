-- 01, "From the packet up", 1: words of four bytes, big-endian. Words and bytes are natural numbers.
use Rattle.std.specs.Prelude.{ℕ, ◌+◌, ◌*◌, ◌/◌, ◌%◌, List, [], ◌∷◌, ◌++◌, length, take, drop}

-- the four bytes of a word, before what follows them
abbrev pub word_bytes : ℕ → List ℕ → List ℕ
word_bytes w rest = w / 16777216 ∷ w / 65536 % 256 ∷ w / 256 % 256 ∷ w % 256 ∷ rest

unfoldable pub bytes_of : List ℕ → List ℕ
bytes_of [] = []
bytes_of (w ∷ ws) = word_bytes w (bytes_of ws)

-- the word of four bytes
abbrev pub word_of : ℕ → ℕ → ℕ → ℕ → ℕ
word_of a b c d = a * 16777216 + b * 65536 + c * 256 + d

-- the words of a list of bytes; one to three last bytes are passed over
unfoldable pub words_of : List ℕ → List ℕ
words_of [] = []
words_of (a ∷ []) = []
words_of (a ∷ b ∷ []) = []
words_of (a ∷ b ∷ c ∷ []) = []
words_of (a ∷ b ∷ c ∷ d ∷ rest) = word_of a b c d ∷ words_of rest

-- a buffer with the bytes xs from index i on, every other byte as it was
unfoldable pub spliced : List ℕ → ℕ → List ℕ → List ℕ
spliced b i xs = take i b ++ xs ++ drop (i + length xs) b
