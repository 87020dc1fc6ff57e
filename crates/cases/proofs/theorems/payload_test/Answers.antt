use Rattle.cases.proofs.Cases.{payload_test}
use Rattle.cases.proofs.theorems.payload_test.Goals as goal

pub returns : goal.returns
returns c = payload_test
