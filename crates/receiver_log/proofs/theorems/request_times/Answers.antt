-- The contract is the theorem of `proofs/RequestTimes.antt`.
use Rattle.receiver_log.proofs.RequestTimes.{request_times}
use Rattle.receiver_log.proofs.theorems.request_times.Goals as goal

pub returns : goal.returns
returns c = request_times
