-- Each turn passes one entry; a header that is not the wanted one less than 65 up fails whatever comes after it.
use Rattle.std.proofs.Common.{◌≡◌, ◌-◌, ◌/◌, ◌%◌, ◌<◌, ◌≤◌, length}
use Rattle.config.specs.Sequence.{turn}
use Rattle.history.specs.inner.Walk.{Past}
use Rattle.history.proofs.headers.any_leg.Given as goal

abbrev pub invariant-loop-at : goal.invariant-loop-at
invariant-loop-at l =
    (l.passed < l.k)
    × (l.at ≤ l.i)
    × (l.i < length l.ring)
    × (l.want % turn ≡ 0)
    × (l.want < 4294967296)
    × Past l.ring l.at l.seq l.at l.passed l.i (l.want / turn) l.prev (l.i - l.at)

abbrev pub decreases-loop-at : goal.decreases-loop-at
decreases-loop-at l = l.k - l.passed
