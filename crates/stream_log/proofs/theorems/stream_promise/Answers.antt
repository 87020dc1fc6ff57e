-- The contract is the theorem of `proofs/Runs.antt`.
use Rattle.stream_log.proofs.Runs.{accounted}
use Rattle.stream_log.proofs.theorems.stream_promise.Goals as goal

pub returns : goal.returns
returns c = accounted
