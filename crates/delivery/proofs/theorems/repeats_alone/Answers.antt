-- The contract is the theorem of `proofs/Repeats.antt`.
use Rattle.delivery.proofs.Repeats.{repeats_alone}
use Rattle.delivery.proofs.theorems.repeats_alone.Goals as goal

pub returns : goal.returns
returns c = repeats_alone
