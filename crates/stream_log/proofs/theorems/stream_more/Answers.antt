-- The contract is the theorem of `proofs/More.antt`.
use Rattle.stream_log.proofs.More.{more}
use Rattle.stream_log.proofs.theorems.stream_more.Goals as goal

pub returns : goal.returns
returns c = more
