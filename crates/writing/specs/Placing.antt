-- 01, "History, repeats, idle": a write walks from a mark. Where the walk of the state test sets it, and where it stands once words have been queued.
use Rattle.std.specs.Prelude.{ℕ, ◌-◌, max, cond, ◌||◌, ltb, eqb}
use Rattle.history.specs.Queue.{request}
use Rattle.history.specs.State.{oldest_mark}
use Rattle.history.specs.declared.history.Mark.{Mark}
use Rattle.sender.specs.Requests.{written_count, index_of}
use Rattle.sender.specs.declared.sender.Sender.{Sender}

-- how far before the unwritten commands: `back`, or further where the oldest request asks for an earlier command of a history of 8 or more
unfoldable pub begins_of : Sender → ℕ → ℕ
begins_of s back =
    cond (eqb s.queue.len 0 || ltb s.history.count 8) back
    (max back (written_count s - index_of s (request s.queue 0).seq))

-- written commands that have left to make space
abbrev pub gone_by : Sender → Sender → ℕ
gone_by before after = written_count before - written_count after

-- at the same place, and so many entries nearer to the oldest; or the oldest, where the mark's entry has left
unfoldable pub mark_queued : Sender → Sender → Mark → Mark
mark_queued before after m =
    cond (ltb m.entry (gone_by before after)) (oldest_mark after.history)
    (record { entry = m.entry - gone_by before after; at = m.at })
