-- The contract is the theorem of `proofs/Runs.antt`.
use Rattle.receiver_log.proofs.Runs.{never_invalid}
use Rattle.receiver_log.proofs.theorems.never_invalid.Goals as goal

pub returns : goal.returns
returns c = never_invalid
