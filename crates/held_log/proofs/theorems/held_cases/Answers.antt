use Rattle.held_log.proofs.Cases.{held_cases}
use Rattle.held_log.proofs.theorems.held_cases.Goals as goal

pub returns : goal.returns
returns c = held_cases
