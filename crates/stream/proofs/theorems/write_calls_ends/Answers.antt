-- The contract is the theorem of `proofs/Calls.antt`.
use Rattle.stream.proofs.Calls.{write_calls_ends}
use Rattle.stream.proofs.theorems.write_calls_ends.Goals as goal

pub returns : goal.returns
returns c = write_calls_ends
