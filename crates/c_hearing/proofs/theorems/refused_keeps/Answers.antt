-- The contract is the theorem of `proofs/Refusals.antt`.
use Rattle.c_hearing.proofs.Refusals.{refused_keeps}
use Rattle.c_hearing.proofs.theorems.refused_keeps.Goals as goal

pub returns : goal.returns
returns c = refused_keeps
