-- The contract is the theorem of `proofs/Runs.antt`.
use Rattle.sender_log.proofs.Runs.{never_invalid}
use Rattle.sender_log.proofs.theorems.sender_never_invalid.Goals as goal

pub returns : goal.returns
returns c = never_invalid
