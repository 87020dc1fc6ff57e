-- What is left to draw, by the map of this round, leads where n draws from the seed lead; the rounds done and the digits of what is left
-- are the digits of n.
use Rattle.std.proofs.Common.{◌≡◌, ◌+◌, ◌≤◌}
use Rattle.load.specs.Load.{iterate, drawn, digits_of}
use Rattle.load.proofs.Maps.{mapped}
use Rattle.load.proofs.load.Load.jump.Given as goal

abbrev pub invariant-loop-left : goal.invariant-loop-left
invariant-loop-left l = (iterate (mapped l.a l.b) l.left l.x ≡ drawn l.n l.initial.x) × (l.rounds + digits_of l.left ≡ digits_of l.n) × (digits_of l.n ≤ 16)

abbrev pub decreases-loop-left : goal.decreases-loop-left
decreases-loop-left l = l.left
