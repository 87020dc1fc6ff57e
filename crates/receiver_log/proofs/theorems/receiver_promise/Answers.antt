-- The contract is the theorem of `proofs/Runs.antt`.
use Rattle.receiver_log.proofs.Runs.{receiver_promise}
use Rattle.receiver_log.proofs.theorems.receiver_promise.Goals as goal

pub returns : goal.returns
returns c = receiver_promise
