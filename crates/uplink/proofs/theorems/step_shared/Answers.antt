-- The contract is the theorem of `proofs/Shares.antt`.
use Rattle.uplink.proofs.Shares.{step_shared}
use Rattle.uplink.proofs.theorems.step_shared.Goals as goal

pub returns : goal.returns
returns c = step_shared
