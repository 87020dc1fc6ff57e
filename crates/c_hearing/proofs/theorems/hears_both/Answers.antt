-- The contract is the theorem of `proofs/Example.antt`.
use Rattle.c_hearing.proofs.Example.{hears_both}
use Rattle.c_hearing.proofs.theorems.hears_both.Goals as goal

pub returns : goal.returns
returns c = hears_both
