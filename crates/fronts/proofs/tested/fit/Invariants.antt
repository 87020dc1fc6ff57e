-- From every message on, a message above the size is left if one is among all.
use mathlib.Core.Path.{◌≡◌}
use mathlib.Core.Bool.{true}
use Prim.Native.Nat.{◌-◌, ◌≤◌}
use lib.ListN.{length, drop}
use Rattle.command.specs.Messages.{whole_of}
use Rattle.fronts.specs.Commands.{above}
use Rattle.fronts.proofs.tested.fit.Given as goal

abbrev pub invariant-loop-at : goal.invariant-loop-at
invariant-loop-at l = (l.at ≤ length l.words) × (whole_of (drop l.at l.words) ≡ true) × (above l.max (drop l.at l.words) ≡ above l.max l.words)

abbrev pub decreases-loop-at : goal.decreases-loop-at
decreases-loop-at l = length l.words - l.at
