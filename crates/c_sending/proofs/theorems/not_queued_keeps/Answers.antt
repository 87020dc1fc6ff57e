-- The contract is the theorem of `proofs/NotQueued.antt`.
use Rattle.c_sending.proofs.NotQueued.{not_queued_keeps}
use Rattle.c_sending.proofs.theorems.not_queued_keeps.Goals as goal

pub returns : goal.returns
returns c = not_queued_keeps
