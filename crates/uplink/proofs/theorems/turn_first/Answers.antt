-- The contract is the theorem of `proofs/Shares.antt`.
use Rattle.uplink.proofs.Shares.{turn_first}
use Rattle.uplink.proofs.theorems.turn_first.Goals as goal

pub returns : goal.returns
returns c = turn_first
