-- The distance is tested first, and then what is missing.
use mathlib.Core.Path.{◌∙◌}
use Rattle.window.proofs.InOrder.{in_order_next, in_order_other}
use Rattle.window.proofs.arrival.in_order.Goals as goal

pub returns-then-distance-eq1 : goal.returns-then-distance-eq1
returns-then-distance-eq1 c = c.complete.ensures ∙ in_order_next _ _ c.distance.ensures c.if-distance-eq1.true

pub returns : goal.returns
returns c = in_order_other _ _ c.distance.ensures c.if-distance-eq1.false
