-- From every command on, those counted and those left make up all.
use mathlib.Core.Path.{◌≡◌}
use Prim.Native.Nat.{◌+◌, ◌-◌, ◌≤◌}
use lib.ListN.{length, drop}
use Rattle.fronts.specs.Commands.{commands_of}
use Rattle.fronts.proofs.Fronts.{Divides}
use Rattle.fronts.proofs.tested.commands.Given as goal

abbrev pub invariant-loop-at : goal.invariant-loop-at
invariant-loop-at l =
    (l.at ≤ length l.words)
    × (l.count ≤ l.at)
    × Divides l.max (drop l.at l.words)
    × (l.count + length (commands_of l.max (drop l.at l.words)) ≡ length (commands_of l.max l.words))

abbrev pub decreases-loop-at : goal.decreases-loop-at
decreases-loop-at l = length l.words - l.at
