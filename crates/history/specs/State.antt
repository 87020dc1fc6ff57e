-- 01, "State test": the history's part of number 13.
use Rattle.std.specs.Prelude.{◌≡◌, ℕ, ◌-◌, ◌<◌, ◌≤◌, min, Bool, true, cond, ◌&&◌, ◌||◌, List, length, replicate, ◌==◌, nat_le, nat_lt, Option, Some}
use Rattle.std.specs.Option.{is_some}
use Rattle.config.specs.Range.{within}
use Rattle.history.specs.Headers.{header_at, words_from, numbered}
use Rattle.history.specs.declared.history.SendHistory.{SendHistory}
use Rattle.history.specs.declared.history.Mark.{Mark}

-- a start: nothing held, and the next number is 0
abbrev pub fresh : ℕ → SendHistory
fresh size = record { size = size; head = 0; used = 0; count = 0; oldest = 0; last = 0 }

-- 01, "Start": a start and a reset zero the lent history
abbrev pub cleared : ℕ → List ℕ → SendHistory × List ℕ
cleared size b = (fresh size, replicate (length b) 0)

-- unless there is none, the newest of k headers from place i on stands at `last`
abbrev pub newest_at : ℕ → List ℕ → ℕ → ℕ → Bool
newest_at last b k i = k == 0 || header_at (k - 1) b i == last

-- the newest `unsent` of k entries from place i on, if there are so many, take just `words` words
abbrev pub unsent_take : ℕ → ℕ → List ℕ → ℕ → ℕ → Bool
unsent_take unsent words b k i = nat_lt k unsent || words_from unsent b (header_at (k - unsent) b i) == words

-- what the walk over k entries from the header at place i on must find: numbers from n on, u words in use, the last index, the unwritten entries
unfoldable pub walk_ok : List ℕ → ℕ → ℕ → ℕ → ℕ → ℕ → ℕ → ℕ → Bool
walk_ok b last unsent words k i n u =
    numbered k b i n && (words_from k b i == u && (newest_at last b k i && unsent_take unsent words b k i))

-- the state test: the sizes, the lent history's length, the head and the words in use, the unwritten entries, and the walk
unfoldable pub state_ok : SendHistory → List ℕ → ℕ → ℕ → Bool
state_ok h b unsent words =
    within 65 32768 h.size
    && (length b == h.size
    && (nat_lt h.head h.size
    && (nat_le h.used h.size
    && (nat_le unsent h.count
    && walk_ok b h.last unsent words h.count h.head h.oldest h.used))))

-- the entry `back` before the unwritten ones, or the oldest where fewer are written
abbrev pub back_of : SendHistory → ℕ → ℕ → ℕ
back_of h unsent back = h.count - unsent - min back (h.count - unsent)

-- the header of the mark's entry stands at its place
abbrev pub Marks : SendHistory → List ℕ → Mark → Type 0
Marks h b m = (m.at ≡ header_at m.entry b h.head) × (m.at < length b)

abbrev pub oldest_mark : SendHistory → Mark
oldest_mark h = record { entry = 0; at = h.head }

-- the oldest where entry k is before the mark
abbrev pub nearest_mark : SendHistory → Mark → ℕ → Mark
nearest_mark h m k = cond (nat_lt k m.entry) (oldest_mark h) m

-- the answer of a test, and where it is yes the header that its walk came by
pub record Answers (t : Bool) (h : SendHistory) (b : List ℕ) (unsent back : ℕ) (r : Option Mark) : Type 0 where
  pub answer : is_some r ≡ t
  pub entry : (m : Mark) → r ≡ Some m → m.entry ≡ back_of h unsent back
  pub place : (m : Mark) → r ≡ Some m → Marks h b m

-- a state that passes the test, whatever of it is unwritten
pub record Good (h : SendHistory) (b : List ℕ) : Type 0 where
  pub ring : length b ≡ h.size
  pub least : 65 ≤ h.size
  pub most : h.size ≤ 32768
  pub inside : h.head < h.size
  pub room : h.used ≤ h.size
  pub headers : numbered h.count b h.head h.oldest ≡ true
  pub words : words_from h.count b h.head ≡ h.used
  pub newest : 0 < h.count → header_at (h.count - 1) b h.head ≡ h.last
