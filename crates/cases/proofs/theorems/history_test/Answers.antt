use Rattle.cases.proofs.Cases.{history_test}
use Rattle.cases.proofs.theorems.history_test.Goals as goal

pub returns : goal.returns
returns c = history_test
