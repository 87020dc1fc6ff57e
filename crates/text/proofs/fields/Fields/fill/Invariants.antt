-- The count stays within the room.
use Rattle.std.proofs.Common.{◌≤◌, ◌-◌, length}
use Rattle.text.proofs.fields.Fields.fill.Given as goal

abbrev pub invariant-loop-one : goal.invariant-loop-one
invariant-loop-one g l = goal.F-IsAlwaysCallable g l.one × (l.n ≤ length l.into)

abbrev pub decreases-loop-one : goal.decreases-loop-one
decreases-loop-one g l = length l.into - l.n
