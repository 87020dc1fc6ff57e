-- The contract is the theorem of `proofs/Refusing.antt`.
use Rattle.stream_log.proofs.Refusing.{never_invalid}
use Rattle.stream_log.proofs.theorems.stream_never_invalid.Goals as goal

pub returns : goal.returns
returns c = never_invalid
