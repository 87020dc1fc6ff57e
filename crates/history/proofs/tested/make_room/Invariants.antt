-- Each turn lets the oldest leave, as the definition does, and those that are to stay keep their words.
use Rattle.std.proofs.Common.{◌≡◌, ◌+◌, ◌-◌, ◌≤◌}
use Rattle.history.specs.State.{Good}
use Rattle.history.specs.Push.{popped}
use Rattle.history.proofs.Room.{staying}
use Rattle.history.proofs.tested.make_room.Given as goal

abbrev pub invariant-loop-g : goal.invariant-loop-g
invariant-loop-g l =
    Good l.g l.ring
    × (l.stay ≤ l.g.count)
    × (l.need + staying l.stay l.ring l.g ≤ l.g.size)
    × (popped (l.g.count - l.stay) l.need l.ring l.g ≡ popped (l.initial.g.count - l.stay) l.need l.ring l.initial.g)

abbrev pub decreases-loop-g : goal.decreases-loop-g
decreases-loop-g l = l.g.count
