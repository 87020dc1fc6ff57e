-- The contract is the theorem of `proofs/Both.antt`.
use Rattle.stream.proofs.Both.{send_and_write_calls_both}
use Rattle.stream.proofs.theorems.send_and_write_calls_both.Goals as goal

pub returns : goal.returns
returns c = send_and_write_calls_both
