-- The contract is the theorem of `proofs/Runs.antt`.
use Rattle.receiver_log.proofs.Runs.{reached}
use Rattle.receiver_log.proofs.theorems.receiver_reached.Goals as goal

pub returns : goal.returns
returns c = reached
