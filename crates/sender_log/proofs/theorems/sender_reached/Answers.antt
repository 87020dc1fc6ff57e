-- The contract is the theorem of `proofs/Runs.antt`.
use Rattle.sender_log.proofs.Runs.{reached}
use Rattle.sender_log.proofs.theorems.sender_reached.Goals as goal

pub returns : goal.returns
returns c = reached
