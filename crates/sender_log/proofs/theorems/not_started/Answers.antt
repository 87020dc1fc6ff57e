-- The contract is the theorem of `proofs/Runs.antt`.
use Rattle.sender_log.proofs.Runs.{not_started_lem}
use Rattle.sender_log.proofs.theorems.not_started.Goals as goal

pub returns : goal.returns
returns c = not_started_lem
