-- Entries of the ring, walked from header to header. A header has the number in its upper half; bits 8 to 15 are zero, and below them stands the count of words.
use Rattle.std.specs.Prelude.{ℕ, zero, suc, ◌+◌, ◌*◌, ◌/◌, ◌%◌, Bool, true, ◌&&◌, List, [], ◌∷◌, length, ◌==◌, nat_le, slice_index}
use Rattle.config.specs.Sequence.{turn, after}
use Rattle.history.specs.Ring.{slot_of, ring_read}

-- the number and the count of words in the header at place i
abbrev pub number_at : List ℕ → ℕ → ℕ
number_at b i = slice_index b i / turn

abbrev pub length_at : List ℕ → ℕ → ℕ
length_at b i = slice_index b i % 256

-- words of the entry whose header stands at place i, the header with them
abbrev pub entry_size : List ℕ → ℕ → ℕ
entry_size b i = 1 + length_at b i

-- the place of the next header
abbrev pub next_at : List ℕ → ℕ → ℕ
next_at b i = slot_of (length b) i (entry_size b i)

-- the words of the entry whose header stands at place i
abbrev pub words_at : List ℕ → ℕ → List ℕ
words_at b i = ring_read b (slot_of (length b) i 1) (length_at b i)

-- the place of the header k after the one at place i
unfoldable pub header_at : ℕ → List ℕ → ℕ → ℕ
header_at zero b i = i
header_at (suc k) b i = header_at k b (next_at b i)

-- the words that k entries from place i on take, headers with them
unfoldable pub words_from : ℕ → List ℕ → ℕ → ℕ
words_from zero b i = 0
words_from (suc k) b i = entry_size b i + words_from k b (next_at b i)

-- the k entries from place i on, each its words
unfoldable pub entries_from : ℕ → List ℕ → ℕ → List (List ℕ)
entries_from zero b i = []
entries_from (suc k) b i = words_at b i ∷ entries_from k b (next_at b i)

-- the header at place i has number n, zero bits 8 to 15 and a length of at most 64
abbrev pub header_ok : List ℕ → ℕ → ℕ → Bool
header_ok b i n = nat_le (length_at b i) 64 && slice_index b i == n * turn + length_at b i

-- so have the k headers from place i on, with the numbers from n on
unfoldable pub numbered : ℕ → List ℕ → ℕ → ℕ → Bool
numbered zero b i n = true
numbered (suc k) b i n = header_ok b i n && numbered k b (next_at b i) (after n 1)
