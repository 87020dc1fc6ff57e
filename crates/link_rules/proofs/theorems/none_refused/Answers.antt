-- The contract is the theorem of `proofs/Refused.antt`.
use Rattle.link_rules.proofs.Refused.{none_refused}
use Rattle.link_rules.proofs.theorems.none_refused.Goals as goal

pub returns : goal.returns
returns c = none_refused
