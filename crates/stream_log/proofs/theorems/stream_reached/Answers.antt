-- The contract is the theorem of `proofs/Runs.antt`.
use Rattle.stream_log.proofs.Runs.{reached}
use Rattle.stream_log.proofs.theorems.stream_reached.Goals as goal

pub returns : goal.returns
returns c = reached
