-- A number ahead is New, and those between it and the highest are skipped.
use mathlib.Core.Path.{ap}
use native.Mathlib.Omega.{arith}
use Rattle.window.specs.Arrival.{new_of}
use Rattle.window.specs.declared.window.Arrival.{Arrival}
use Rattle.window.proofs.Accepts.{new_distance, accept_new_is}
use Rattle.window.proofs.arrival.class_ahead.Goals as goal

pub overflow_sub-gap : goal.overflow_sub-gap
overflow_sub-gap c =
    omega (arith, (new_distance c.args.w c.args.seq c.distance-d.ensures c.requires).0)

pub returns : goal.returns
unfolding new_of
returns c = ap (λ (t : Arrival). t.class) (accept_new_is _ _ c.distance-d.ensures c.requires)
