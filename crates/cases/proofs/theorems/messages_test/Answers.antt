use Rattle.cases.proofs.Cases.{messages_test}
use Rattle.cases.proofs.theorems.messages_test.Goals as goal

pub returns : goal.returns
returns c = messages_test
