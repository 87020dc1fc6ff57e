-- Each call by the tests that it makes.
use Rattle.c_window.proofs.Refusals.{start_keeps, accept_keeps}
use Rattle.c_window.proofs.theorems.refused_keeps.Goals as goal

pub returns : goal.returns
returns c = record { start = λ w size highest. (start_keeps w size highest).kept; accept = λ w seq. (accept_keeps w seq).kept }
