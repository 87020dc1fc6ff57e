use Rattle.cases.proofs.Cases.{idle_times}
use Rattle.cases.proofs.theorems.idle_times.Goals as goal

pub returns : goal.returns
returns c = idle_times
