use Rattle.cases.proofs.Cases.{read_test}
use Rattle.cases.proofs.theorems.read_test.Goals as goal

pub returns : goal.returns
returns c = read_test
