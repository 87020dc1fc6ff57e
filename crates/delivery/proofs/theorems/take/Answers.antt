-- The contract is the theorem of `proofs/Taking.antt`.
use Rattle.delivery.proofs.Taking.{takes}
use Rattle.delivery.proofs.theorems.take.Goals as goal

pub returns : goal.returns
returns c = takes
