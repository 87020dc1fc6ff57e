-- The contract is the theorem of `proofs/Steps.antt`.
use Rattle.link_rules.proofs.Steps.{steps_done}
use Rattle.link_rules.proofs.theorems.steps_done.Goals as goal

pub returns : goal.returns
returns c = steps_done
