-- The call by the tests that it makes.
use Rattle.c_payload.proofs.Refusals.{payload_keeps}
use Rattle.c_payload.proofs.theorems.refused_keeps.Goals as goal

pub returns : goal.returns
returns c = record { data_payload = λ b max seq ws. (payload_keeps b max seq ws).kept }
