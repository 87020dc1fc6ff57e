use Rattle.cases.proofs.Cases.{ring_test}
use Rattle.cases.proofs.theorems.ring_test.Goals as goal

pub returns : goal.returns
returns c = ring_test
