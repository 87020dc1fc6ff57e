-- An entry is passed if its header is the one before with the next number; the header before the place reached is then a step back.
use Rattle.std.proofs.Common.{◌≡◌, ◌+◌, ◌-◌, ◌/◌, ◌%◌, ◌<◌, ◌≤◌, length, get_or}
use Rattle.config.specs.Sequence.{turn}
use Rattle.history.specs.inner.Walk.{Past}
use Rattle.history.proofs.headers.equal_leg.Given as goal

abbrev pub invariant-loop-i : goal.invariant-loop-i
invariant-loop-i l =
    (l.passed < l.k)
    × (l.at ≤ l.i)
    × (l.i < length l.ring)
    × (l.header % turn ≡ l.pl)
    × (l.header < 4294967296)
    × Past l.ring l.at l.seq (l.at - l.step) l.passed l.i (l.header / turn) (l.i - l.step) (l.i - l.at)
    × ((get_or l.ring l.i 0 ≡ l.header → ⊥) → (0 < l.passed) × (l.at + l.step ≤ l.i))

abbrev pub decreases-loop-i : goal.decreases-loop-i
decreases-loop-i l = l.k - l.passed
