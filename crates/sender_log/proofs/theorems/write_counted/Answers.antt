-- The contract is the theorem of `proofs/Wanted.antt`.
use Rattle.sender_log.proofs.Wanted.{counted}
use Rattle.sender_log.proofs.theorems.write_counted.Goals as goal

pub returns : goal.returns
returns c = counted
