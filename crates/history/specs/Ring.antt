-- 01, "Const parameters W, C, Q": history words in a lent slice. Places, stores and reads of a ring of words, round its end.
use Rattle.std.specs.Prelude.{ℕ, zero, suc, ◌+◌, ◌-◌, min, cond, List, [], ◌∷◌, ◌++◌, length, take, drop, nat_lt, slice_index, slice_set}

-- the place n after i in a ring of c
unfoldable pub slot_of : ℕ → ℕ → ℕ → ℕ
slot_of c i n = cond (nat_lt (i + n) c) (i + n) (i + n - c)

-- how many of n words from place i on lie before the end
abbrev pub run_of : ℕ → ℕ → ℕ → ℕ
run_of c i n = min n (c - i)

-- the ring after words are stored one after the other from place i on
unfoldable pub ring_stored : List ℕ → ℕ → List ℕ → List ℕ
ring_stored b i [] = b
ring_stored b i (w ∷ ws) = ring_stored (slice_set b i w) (slot_of (length b) i 1) ws

-- n words of the ring from place i on
unfoldable pub ring_read : List ℕ → ℕ → ℕ → List ℕ
ring_read b i zero = []
ring_read b i (suc n) = slice_index b i ∷ ring_read b (slot_of (length b) i 1) n

-- the ring, read once round from place i
unfoldable pub view : List ℕ → ℕ → List ℕ
view b i = drop i b ++ take i b
