-- The loop has the hits below k.
use mathlib.Core.Path.{◌≡◌}
use Rattle.window.specs.Set.{val, set_of}
use Rattle.window.specs.Marking.{hits_of}
use Rattle.window.proofs.tested.hits.Given as goal

abbrev pub invariant-loop-k : goal.invariant-loop-k
invariant-loop-k l = l.found ≡ set_of (hits_of l.range l.h (val l.m) l.k)
