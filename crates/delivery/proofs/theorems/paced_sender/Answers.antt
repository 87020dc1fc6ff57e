-- The contract is the theorem of `proofs/Paced.antt`.
use Rattle.delivery.proofs.Paced.{paced_sender}
use Rattle.delivery.proofs.theorems.paced_sender.Goals as goal

pub returns : goal.returns
returns c = paced_sender
