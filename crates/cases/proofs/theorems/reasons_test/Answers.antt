use Rattle.cases.proofs.Cases.{reasons_test}
use Rattle.cases.proofs.theorems.reasons_test.Goals as goal

pub returns : goal.returns
returns c = reasons_test
