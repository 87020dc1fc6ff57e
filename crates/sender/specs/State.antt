-- 01, "State test": the sender's part of number 13; "Start": a start and a reset.
use Rattle.std.specs.Prelude.{ℕ, Bool, ◌&&◌, List, length, replicate, None}
use Rattle.history.specs.State.{fresh as none_held, state_ok}
use Rattle.history.specs.Queue.{none_wait, queue_ok}
use Rattle.idle.specs.Schedule.{idle_ok}
use Rattle.sender.specs.declared.sender.Sender.{Sender}

-- the state test: the history's, the request queue's and the idle schedule's part
unfoldable pub valid_of : Sender → List ℕ → Bool
valid_of s ring = state_ok s.history ring s.unsent s.unsent_words && (queue_ok s.queue && idle_ok s.idle)

-- a start: nothing held, nothing waits, and the next number is 0
abbrev pub fresh : ℕ → ℕ → Sender
fresh words places =
    record { history = none_held words; queue = none_wait places; unsent = 0; unsent_words = 0; idle = None }

-- a start zeroes the lent history
abbrev pub start_of : ℕ → ℕ → List ℕ → Sender × List ℕ
start_of words places ring = (fresh words places, replicate (length ring) 0)

-- and so does a reset: a start with the same sizes
abbrev pub reset_of : Sender → List ℕ → Sender × List ℕ
reset_of s ring = start_of s.history.size s.queue.size ring
