-- A draw is the generator's map, once.
use Rattle.std.proofs.Common.{ℕ, ap}
use Rattle.load.specs.Load.{next}
use Rattle.load.proofs.load.Load.draw.Goals as goal

pub returns : goal.returns
unfolding next
returns c = ap (λ (z : ℕ). record { last = z }) c.mapped.ensures
