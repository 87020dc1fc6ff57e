-- 01, "History, repeats, idle": words join the newest command or open further ones, and the oldest leave when words are needed.
use Rattle.std.specs.Prelude.{ℕ, zero, suc, ◌+◌, ◌-◌, ◌*◌, cond, List, ◌∷◌, length, nat_lt, slice_index, slice_set}
use Rattle.config.specs.Sequence.{turn, after}
use Rattle.history.specs.Ring.{slot_of, ring_stored}
use Rattle.history.specs.Headers.{entry_size, next_at}
use Rattle.history.specs.declared.history.SendHistory.{SendHistory}

-- the oldest entry leaves
unfoldable pub pop_one : List ℕ → SendHistory → SendHistory
pop_one b h =
    record {
      size = h.size;
      head = next_at b h.head;
      used = h.used - entry_size b h.head;
      count = h.count - 1;
      oldest = after h.oldest 1;
      last = h.last;
    }

-- oldest entries leave, at most k, while fewer than `need` words are free
unfoldable pub popped : ℕ → ℕ → List ℕ → SendHistory → SendHistory
popped zero need b h = h
popped (suc k) need b h = cond (nat_lt (h.size - h.used) need) (popped k need b (pop_one b h)) h

-- the place behind the newest entry
abbrev pub end_of : SendHistory → ℕ
end_of h = slot_of h.size h.head h.used

-- the state after an entry of n words is added behind the newest: its header counts too
unfoldable pub grown : SendHistory → ℕ → SendHistory
grown h n =
    record {
      size = h.size;
      head = h.head;
      used = h.used + (1 + n);
      count = h.count + 1;
      oldest = h.oldest;
      last = end_of h;
    }

-- the header and the words of an entry with the next number
abbrev pub entry_of : SendHistory → List ℕ → List ℕ
entry_of h ws = (after h.oldest h.count * turn + length ws) ∷ ws

-- the state and the ring after a push, for which every entry may leave
unfoldable pub pushed : SendHistory → List ℕ → List ℕ → SendHistory × List ℕ
pushed h b ws =
    let g : SendHistory = popped h.count (1 + length ws) b h in
    (grown g (length ws), ring_stored b (end_of g) (entry_of g ws))

-- the state after n words have joined the newest entry
unfoldable pub longer : SendHistory → ℕ → SendHistory
longer h n =
    record {
      size = h.size;
      head = h.head;
      used = h.used + n;
      count = h.count;
      oldest = h.oldest;
      last = h.last;
    }

-- the state and the ring after words have joined the newest entry, for which every other may leave
unfoldable pub appended : SendHistory → List ℕ → List ℕ → SendHistory × List ℕ
appended h b ws =
    let g : SendHistory = popped (h.count - 1) (length ws) b h in
    (longer g (length ws), slice_set (ring_stored b (end_of g) ws) h.last (slice_index b h.last + length ws))
