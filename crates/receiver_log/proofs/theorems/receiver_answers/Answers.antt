-- The contract is the theorem of `proofs/Runs.antt`.
use Rattle.receiver_log.proofs.Runs.{answered}
use Rattle.receiver_log.proofs.theorems.receiver_answers.Goals as goal

pub returns : goal.returns
returns c = answered
