-- The contract is the theorem of `proofs/Calls.antt`.
use Rattle.held_notes.proofs.Calls.{held_refused}
use Rattle.held_notes.proofs.theorems.held_refused.Goals as goal

pub returns : goal.returns
returns c = held_refused
