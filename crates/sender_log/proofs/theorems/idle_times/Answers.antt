-- The contract is the theorem of `proofs/Idle.antt`.
use Rattle.sender_log.proofs.Idle.{idle_times}
use Rattle.sender_log.proofs.theorems.idle_times.Goals as goal

pub returns : goal.returns
returns c = idle_times
