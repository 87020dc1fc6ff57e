-- The walk over the headers: what it has passed, and what its parts hand on.
use Rattle.std.specs.Prelude.{◌≡◌, ℕ, zero, suc, ◌+◌, ◌-◌, ◌<◌, ◌≤◌, Bool, false, ◌&&◌, List, length, nat_le, Option, None, Some}
use Rattle.history.specs.Ring.{slot_of}
use Rattle.history.specs.Headers.{next_at, header_at, words_from, numbered}
use Rattle.history.specs.declared.headers.Stop.{Stop}
use Rattle.history.specs.declared.headers.Leg.{Leg}

-- the place of the newest of k headers from place i on; p where there is none
unfoldable pub newest_from : ℕ → List ℕ → ℕ → ℕ → ℕ
newest_from zero b i p = p
newest_from (suc k) b i p = newest_from k b (next_at b i) i

-- k headers from place i on have the numbers from n on, and their entries take no more than u words
abbrev pub passes : ℕ → List ℕ → ℕ → ℕ → ℕ → Bool
passes k b i n u = numbered k b i n && nat_le (words_from k b i) u

-- d entries from place i on are passed, which take `words` words: the walk of d entries and any j more is from there the walk of j
pub record Past (b : List ℕ) (i n p d at seq prev words : ℕ) : Type 0 where
  pub numbers : (j : ℕ) → numbered (d + j) b i n ≡ numbered j b at seq
  pub place : (j : ℕ) → header_at (d + j) b i ≡ header_at j b at
  pub taken : (j : ℕ) → words_from (d + j) b i ≡ words + words_from j b at
  pub newest : (j : ℕ) → newest_from (d + j) b i p ≡ newest_from j b at prev

-- a leg of at most k entries: one of their headers is wrong, or some are passed
abbrev pub Ran : List ℕ → ℕ → ℕ → ℕ → ℕ → Option Leg → Type 0
Ran b i n p k None = (j : ℕ) → numbered (k + j) b i n ≡ false
Ran b i n p k (Some r) = (0 < r.passed) × (r.passed ≤ k) × Past b i n p r.passed (slot_of (length b) i r.words) r.seq r.prev r.words

-- a walk of k entries: one of their headers is wrong or they take too many words, or all are passed
abbrev pub Walked : List ℕ → Stop → ℕ → Option Stop → Type 0
Walked b w k None = (j : ℕ) → passes (k + j) b w.at w.seq w.words ≡ false
Walked b w k (Some r) = (r.at < length b) × (r.words ≤ w.words) × Past b w.at w.seq w.prev k r.at r.seq r.prev (w.words - r.words)
