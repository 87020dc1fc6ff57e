-- The test of the distance.
use mathlib.Core.Path.{ap, ◌∙◌}
use Rattle.config.specs.Range.{within}
use Rattle.window.specs.Arrival.{reach}
use Rattle.window.proofs.arrival.is_ahead.Goals as goal

pub returns : goal.returns
returns c = c.is_new.ensures ∙ ap (within 1 reach) c.distance.ensures
