-- The contract is the theorem of `proofs/Splitting.antt`.
use Rattle.c_hearing.proofs.Splitting.{goes_on_lem}
use Rattle.c_hearing.proofs.theorems.goes_on.Goals as goal

pub returns : goal.returns
returns c = goes_on_lem
