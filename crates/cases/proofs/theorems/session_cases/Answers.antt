use Rattle.cases.proofs.Cases.{table}
use Rattle.cases.proofs.theorems.session_cases.Goals as goal

pub returns : goal.returns
returns c = table
