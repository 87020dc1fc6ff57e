-- Each turn is a leg, and the place that it ends at is gone round to; the entries passed and those of the leg are passed together.
use Rattle.std.proofs.Common.{◌-◌, ◌<◌, ◌≤◌, length}
use Rattle.history.specs.inner.Walk.{Past}
use Rattle.history.proofs.headers.walk.Given as goal

abbrev pub invariant-loop-left : goal.invariant-loop-left
invariant-loop-left l =
    (l.left ≤ l.k)
    × (l.at < length l.ring)
    × (l.seq < 65536)
    × (l.words ≤ l.initial.words)
    × Past l.ring l.initial.at l.initial.seq l.initial.prev (l.k - l.left) l.at l.seq l.prev (l.initial.words - l.words)

abbrev pub decreases-loop-left : goal.decreases-loop-left
decreases-loop-left l = l.left
