use Rattle.cases.proofs.Cases.{layout_test}
use Rattle.cases.proofs.theorems.layout_test.Goals as goal

pub returns : goal.returns
returns c = layout_test
