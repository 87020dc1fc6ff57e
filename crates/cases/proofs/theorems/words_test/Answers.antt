use Rattle.cases.proofs.Cases.{words_test}
use Rattle.cases.proofs.theorems.words_test.Goals as goal

pub returns : goal.returns
returns c = words_test
