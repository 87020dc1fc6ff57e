-- The contract is the theorem of `proofs/Runs.antt`.
use Rattle.sender_log.proofs.Runs.{answered}
use Rattle.sender_log.proofs.theorems.sender_answers.Goals as goal

pub returns : goal.returns
returns c = answered
