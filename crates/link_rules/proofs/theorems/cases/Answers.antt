-- The contract is the table of `proofs/Cases.antt`.
use Rattle.link_rules.proofs.Cases.{runs}
use Rattle.link_rules.proofs.theorems.cases.Goals as goal

pub returns : goal.returns
returns c = runs
