-- What is counted so far and what is left to read from here come to the whole payload; each command takes at least four bytes.
use Prim.Native.Nat.{◌+◌, ◌-◌, ◌≤◌}
use mathlib.Core.Path.{◌≡◌}
use lib.ListN.{length}
use Rattle.link_tally.proofs.Walking.{ended}
use Rattle.link_tally.proofs.arriving.walk.Given as goal

abbrev pub invariant-loop-a : goal.invariant-loop-a
invariant-loop-a l = (l.a.handed + 4 ≤ l.at) × (l.a.losses + 4 ≤ l.at) × (l.at ≤ 1404) × (length l.payload ≤ 1400) × (ended l.cfg l.time l.ring l.payload l.a l.at ≡ ended l.cfg l.time l.ring l.payload l.initial.a 4)

abbrev pub decreases-loop-a : goal.decreases-loop-a
decreases-loop-a l = 1404 - l.at
