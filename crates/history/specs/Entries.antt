-- What a history stands for: a list of entries, each a list of words, oldest first, numbered from `oldest` on.
use Rattle.std.specs.Prelude.{◌≡◌, ℕ, ◌+◌, ◌-◌, ◌*◌, ◌<◌, ◌≤◌, cond, List, [], ◌∷◌, ◌++◌, length, take, drop, nat_lt}
use Rattle.config.specs.Sequence.{turn, after}
use Rattle.history.specs.Ring.{slot_of, view}
use Rattle.history.specs.Headers.{entries_from}
use Rattle.history.specs.declared.history.SendHistory.{SendHistory}

-- the words of entries as they stand in the ring, the first of them with number n
unfoldable pub flat : ℕ → List (List ℕ) → List ℕ
flat n [] = []
flat n (ws ∷ wss) = (n * turn + length ws) ∷ (ws ++ flat (after n 1) wss)

-- no entry has more than 64 words
unfoldable pub Short : List (List ℕ) → Type 0
Short [] = Unit
Short (ws ∷ wss) = (length ws ≤ 64) × Short wss

-- the words that entries take, headers with them
unfoldable pub size : List (List ℕ) → ℕ
size [] = 0
size (ws ∷ wss) = 1 + length ws + size wss

-- the words in use, from the oldest header on
unfoldable pub contents : SendHistory → List ℕ → List ℕ
contents h b = take h.used (view b h.head)

-- the entries held, read from the ring
abbrev pub entries_of : SendHistory → List ℕ → List (List ℕ)
entries_of h b = entries_from h.count b h.head

-- the state and the ring hold the entries
pub record Holds (h : SendHistory) (b : List ℕ) (es : List (List ℕ)) : Type 0 where
  pub ring : length b ≡ h.size
  pub least : 65 ≤ h.size
  pub most : h.size ≤ 32768
  pub inside : h.head < h.size
  pub room : h.used ≤ h.size
  pub number : h.oldest < turn
  pub words : contents h b ≡ flat h.oldest es
  pub many : h.count ≡ length es
  pub short : Short es
  pub newest : 0 < h.count → h.last ≡ slot_of h.size h.head (size (take (h.count - 1) es))

-- the newest `unsent` entries are not written, and take `words` words
pub record Unwritten (es : List (List ℕ)) (unsent words : ℕ) : Type 0 where
  pub some : unsent ≤ length es
  pub take : size (drop (length es - unsent) es) ≡ words

-- the entries that stay when `need` words are to be free in a ring of c: the oldest leave first
unfoldable pub kept : ℕ → ℕ → List (List ℕ) → List (List ℕ)
kept c need [] = []
kept c need (ws ∷ wss) = cond (nat_lt (c - size (ws ∷ wss)) need) (kept c need wss) (ws ∷ wss)
