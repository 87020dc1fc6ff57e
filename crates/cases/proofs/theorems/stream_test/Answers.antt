use Rattle.cases.proofs.Cases.{stream_test}
use Rattle.cases.proofs.theorems.stream_test.Goals as goal

pub returns : goal.returns
returns c = stream_test
