-- The contract is the theorem of `proofs/Stretches.antt`, from the theorems that are called.
use Rattle.held_log.proofs.Stretches.{held_handed_on}
use Rattle.held_log.proofs.theorems.held_handed_on.Goals as goal

pub returns : goal.returns
returns c = held_handed_on c.receiver_answers.ensures c.receiver_promise.ensures
