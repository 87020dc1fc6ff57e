-- 01, "State test", before number 13 of a state itself: which of the words that a caller lends are taken for a state. A word takes any value, but where its field has fewer bits.
use Rattle.std.specs.Prelude.{ℕ, Bool, true, ◌&&◌, List, [], ◌∷◌, get_or, leb}

-- of each pair, the word at its first is at most its second
unfoldable pub within : List (ℕ × ℕ) → List ℕ → Bool
within [] ws = true
within (p ∷ ps) ws = leb (get_or ws p.0 0) p.1 && within ps ws
