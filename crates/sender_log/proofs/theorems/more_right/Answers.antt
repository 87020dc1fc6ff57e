-- The contract is the theorem of `proofs/More.antt`.
use Rattle.sender_log.proofs.More.{more}
use Rattle.sender_log.proofs.theorems.more_right.Goals as goal

pub returns : goal.returns
returns c = more
