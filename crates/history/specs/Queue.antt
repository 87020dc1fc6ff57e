-- 01, "History, repeats, idle": a pending number is Ignored as Pending, tested before Full. The requests that wait, oldest first, and the state whole.
use Rattle.std.specs.Prelude.{ℕ, zero, suc, ◌+◌, ◌-◌, ◌<◌, ◌≤◌, Bool, false, cond, ◌&&◌, ◌||◌, List, [], ◌∷◌, replicate, ◌==◌, nat_le, nat_lt, slice_index_or, slice_set, Option, Some, None, Result, Ok, Err, ⊤}
use Rattle.history.specs.declared.queue.Ignored.{Ignored}
use Rattle.config.specs.Range.{within}
use Rattle.history.specs.Ring.{slot_of}
use Rattle.command.specs.declared.retransmit.RetransmitRequest.{RetransmitRequest}
use Rattle.history.specs.declared.queue.RetransmitQueue.{RetransmitQueue}
use Rattle.history.specs.declared.queue.Ignored.TheVariants.{Pending, Full}
use Rattle.history.specs.declared.queue.Pushed.{Pushed}
use Rattle.history.specs.declared.queue.Popped.{Popped}

-- a place that was never used
abbrev pub blank : RetransmitRequest
blank = record { seq = 0; count = 0 }

-- a start and a reset
abbrev pub none_wait : ℕ → RetransmitQueue
none_wait size = record { items = replicate 16 blank; head = 0; len = 0; size = size }

-- 01, "State test": the request queue's part of number 13
abbrev pub queue_ok : RetransmitQueue → Bool
queue_ok q = within 1 16 q.size && (nat_lt q.head q.size && nat_le q.len q.size)

-- a queue that passes the test
pub record Fit (q : RetransmitQueue) : Type 0 where
  pub least : 1 ≤ q.size
  pub most : q.size ≤ 16
  pub inside : q.head < q.size
  pub held : q.len ≤ q.size

-- request i, oldest first
unfoldable pub request : RetransmitQueue → ℕ → RetransmitRequest
request q i = slice_index_or q.items (slot_of q.size q.head i) blank

-- k requests from request i on
unfoldable pub requests : RetransmitQueue → ℕ → ℕ → List RetransmitRequest
requests q zero i = []
requests q (suc k) i = request q i ∷ requests q k (i + 1)

-- the requests that wait, oldest first
abbrev pub waiting : RetransmitQueue → List RetransmitRequest
waiting q = requests q q.len 0

-- whether one of them has the number
unfoldable pub asks : List RetransmitRequest → ℕ → Bool
asks [] n = false
asks (r ∷ rs) n = r.seq == n || asks rs n

-- the oldest of them
unfoldable pub oldest_of : List RetransmitRequest → Option RetransmitRequest
oldest_of [] = None
oldest_of (r ∷ rs) = Some r

-- ---- what the operations leave

abbrev pub behind : RetransmitQueue → RetransmitRequest → RetransmitQueue
behind q r =
    record { items = slice_set q.items (slot_of q.size q.head q.len) r; head = q.head; len = q.len + 1; size = q.size }

abbrev pub popped : RetransmitQueue → RetransmitQueue
popped q = record { items = q.items; head = slot_of q.size q.head 1; len = q.len - 1; size = q.size }

abbrev pub in_front : RetransmitQueue → RetransmitRequest → RetransmitQueue
in_front q r = record { items = slice_set q.items q.head r; head = q.head; len = q.len; size = q.size }

abbrev pub answered : RetransmitQueue → Result ⊤ Ignored → Pushed
answered q a = record { queue = q; answer = a }

unfoldable pub push_answer : RetransmitQueue → RetransmitRequest → Pushed
push_answer q r =
    cond (asks (waiting q) r.seq) (answered q (Err Pending))
    (cond (nat_le q.size q.len) (answered q (Err Full))
    (answered (behind q r) (Ok tt)))

unfoldable pub pop_of : RetransmitQueue → Popped
pop_of q = record { queue = cond (q.len == 0) q (popped q); oldest = oldest_of (waiting q) }

unfoldable pub set_front_of : RetransmitQueue → RetransmitRequest → RetransmitQueue
set_front_of q r = cond (q.len == 0) q (in_front q r)
