-- The contract is the theorem of `proofs/Bound.antt`.
use Rattle.link_rules.proofs.Bound.{cleared}
use Rattle.link_rules.proofs.theorems.cleared.Goals as goal

pub returns : goal.returns
returns c = cleared
