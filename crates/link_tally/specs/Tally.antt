-- What is counted while an end reads a payload.
use Rattle.std.specs.Prelude.{ℕ, ◌+◌, ◌≤◌, List, length, drop, None}
use Rattle.packet.specs.Read.{Item, items_from}
use Rattle.stream.specs.declared.stream.DataStream.{DataStream}
use Rattle.link_rules.specs.Arriving.{Arrived, handed_in, losses_in, error_in}
use Rattle.link_tally.specs.declared.arriving.Tally.{Tally}

-- the counts so far are small
pub record Few (a : Tally) : Type 0 where
  pub handed : a.handed ≤ 1400
  pub losses : a.losses ≤ 1400

-- before the first command
abbrev pub unread : DataStream → Tally
unread s = record { stream = s; waiting = None; handed = 0; losses = 0 }

-- with the answers to further commands
abbrev pub tallied : Tally → Arrived → Tally
tallied a x =
    record {
      stream = x.stream;
      waiting = error_in a.waiting x.answers;
      handed = a.handed + handed_in x.answers;
      losses = a.losses + losses_in x.answers;
    }

-- the items of a payload from a place on
unfoldable pub rest_at : List ℕ → ℕ → List Item
rest_at b at = items_from (length b) at (drop at b)
