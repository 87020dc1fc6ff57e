-- The contract is the theorem of `proofs/Consoles.antt`.
use Rattle.stream_log.proofs.Consoles.{line_ends}
use Rattle.stream_log.proofs.theorems.line_ends.Goals as goal

pub returns : goal.returns
returns c = line_ends
