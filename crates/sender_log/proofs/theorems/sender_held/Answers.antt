-- The contract is the theorem of `proofs/Past.antt`.
use Rattle.sender_log.proofs.Past.{held_past}
use Rattle.sender_log.proofs.theorems.sender_held.Goals as goal

pub returns : goal.returns
returns c = held_past
