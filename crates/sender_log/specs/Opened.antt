-- 01, "History, repeats, idle", over past calls: every command ever opened, and which of them a history of c words holds. Nothing leaves here.
use Rattle.std.specs.Prelude.{ℕ, ◌+◌, ◌-◌, ◌%◌, Bool, cond, List, [], ◌∷◌, ◌++◌, length, take, drop, leb}
use Rattle.config.specs.Sequence.{turn}
use Rattle.packet.specs.Layout.{Packet}
use Rattle.command.specs.declared.retransmit.RetransmitRequest.{RetransmitRequest}
use Rattle.history.specs.Entries.{size}
use Rattle.history.specs.Written.{data_packet}
use Rattle.sender_log.specs.Schedule.{Schedule, none}

pub record Past : Type 0 where
  -- the commands written and those opened since, each its words, oldest first: a command's place among all is its position
  pub written : List (List ℕ)
  pub unwritten : List (List ℕ)
  -- the requests that wait, oldest first
  pub waiting : List RetransmitRequest
  pub schedule : Schedule

abbrev pub fresh : Past
fresh = record { written = []; unwritten = []; waiting = []; schedule = none }

abbrev pub opened : Past → List (List ℕ)
opened x = x.written ++ x.unwritten

-- ---- held

-- the longest end of a list that a test holds of
unfoldable pub longest_end : {A : Type 0} → (List A → Bool) → List A → List A
longest_end fits [] = []
longest_end fits (x ∷ xs) = cond (fits (x ∷ xs)) (x ∷ xs) (longest_end fits xs)

-- the newest commands whose words and headers fit in c words
abbrev pub newest : ℕ → List (List ℕ) → List (List ℕ)
newest c es = longest_end (λ fs. leb (size fs) c) es

abbrev pub held : ℕ → Past → List (List ℕ)
held c x = newest c (opened x)

-- the position of the oldest one held: as many as have left
abbrev pub oldest_at : ℕ → Past → ℕ
oldest_at c x = length (opened x) - length (held c x)

-- ---- as data commands: a command's number is its position modulo 65,536

unfoldable pub data_at : ℕ → List (List ℕ) → List Packet
data_at at [] = []
data_at at (ws ∷ wss) = data_packet (at % turn) ws ∷ data_at (at + 1) wss

-- the written ones from a position up to, not including, another
abbrev pub copies : Past → ℕ → ℕ → List Packet
copies x from to = data_at from (take (to - from) (drop from x.written))

-- the new ones
abbrev pub new_of : Past → List Packet
new_of x = data_at (length x.written) x.unwritten
