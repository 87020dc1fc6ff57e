-- The contract is the theorem of `proofs/Delivery.antt`.
use Rattle.delivery.proofs.Delivery.{contract}
use Rattle.delivery.proofs.theorems.contract_sentence.Goals as goal

pub returns : goal.returns
returns c = contract
