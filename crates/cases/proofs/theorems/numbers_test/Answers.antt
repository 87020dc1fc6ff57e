use Rattle.cases.proofs.Cases.{numbers_test}
use Rattle.cases.proofs.theorems.numbers_test.Goals as goal

pub returns : goal.returns
returns c = numbers_test
