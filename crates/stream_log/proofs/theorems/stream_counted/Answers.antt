-- The contract is the theorem of `proofs/Counting.antt`.
use Rattle.stream_log.proofs.Counting.{stream_counted}
use Rattle.stream_log.proofs.theorems.stream_counted.Goals as goal

pub returns : goal.returns
returns c = stream_counted
