-- The contract is the theorem of `proofs/Answering.antt`.
use Rattle.stream_log.proofs.Answering.{answered}
use Rattle.stream_log.proofs.theorems.stream_answers.Goals as goal

pub returns : goal.returns
returns c = answered
