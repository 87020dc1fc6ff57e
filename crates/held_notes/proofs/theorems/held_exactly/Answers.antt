-- The contract is the theorem of `proofs/Exactly.antt`.
use Rattle.held_notes.proofs.Exactly.{held_exactly}
use Rattle.held_notes.proofs.theorems.held_exactly.Goals as goal

pub returns : goal.returns
returns c = held_exactly
