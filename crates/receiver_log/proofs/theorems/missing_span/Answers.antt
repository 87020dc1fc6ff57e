-- The contract is the theorem of `proofs/Runs.antt`.
use Rattle.receiver_log.proofs.Runs.{missing_from_to}
use Rattle.receiver_log.proofs.theorems.missing_span.Goals as goal

pub returns : goal.returns
returns c = missing_from_to
