-- The contract is the theorem of `proofs/Turns.antt`.
use Rattle.uplink.proofs.Turns.{each_first_once}
use Rattle.uplink.proofs.theorems.each_first_once.Goals as goal

pub returns : goal.returns
returns c = each_first_once
