-- The contract is the theorem of `proofs/Turned.antt`.
use Rattle.history.proofs.Turned.{past_the_end}
use Rattle.history.proofs.theorems.past_the_end.Goals as goal

pub returns : goal.returns
returns c = past_the_end
