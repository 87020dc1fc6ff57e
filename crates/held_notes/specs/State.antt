-- The held notes as 32 words: note k is bit k % 64 of word k / 64.
use Rattle.std.specs.Prelude.{ℕ, zero, suc, ◌+◌, ◌*◌, ◌/◌, ◌%◌, ◌^◌, ◌≡◌, Bool, cond, List, [], ◌∷◌, ◌++◌, eqb, get_or}
use Rattle.held_notes.specs.Calls.{Moment, message, held_after, held_through}

-- how many notes there are: 16 channels of 128
abbrev pub all_notes : ℕ
all_notes = 2048

unfoldable pub has : List ℕ → ℕ → Bool
has held k = eqb (get_or held (k / 64) 0 / 2 ^ (k % 64) % 2) 1

-- ---- the set of these notes, as words

-- the number whose n lowest bits are these
unfoldable pub bits_below : (ℕ → Bool) → ℕ → ℕ
bits_below f zero = 0
bits_below f (suc n) = cond (f n) 1 0 * 2 ^ n + bits_below f n

-- n words, from word i on
unfoldable pub words_from : (ℕ → Bool) → ℕ → ℕ → List ℕ
words_from f i zero = []
words_from f i (suc n) = bits_below (λ (j : ℕ). f (i * 64 + j)) 64 ∷ words_from f (suc i) n

unfoldable pub set_of : (ℕ → Bool) → List ℕ
set_of f = words_from f 0 32

-- ---- from these held notes to those

-- the same set but that the note is in it, or isn't
abbrev pub Turned : Bool → ℕ → List ℕ → List ℕ → Type 0
Turned on note before after = (k : ℕ) → has after k ≡ cond (eqb k note) on (has before k)

-- moments in order of time lead from these held notes to those
abbrev pub Leads : ℕ → List Moment → List ℕ → List ℕ → Type 0
Leads g ms before after = (k : ℕ) → has after k ≡ held_through g k (has before k) ms

-- so does a message that begins with the word w
abbrev pub Played : ℕ → Bool → ℕ → List ℕ → List ℕ → Type 0
Played g new w before after = (rest : List ℕ) (k : ℕ) → has after k ≡ held_after g k (has before k) (message new (w ∷ rest))

-- ---- notes in order

-- those of a set below n, by channel, then note, each once
unfoldable pub notes_below : (ℕ → Bool) → ℕ → List ℕ
notes_below f zero = []
notes_below f (suc n) = notes_below f n ++ cond (f n) (n ∷ []) []
