-- The contract is the theorem of `proofs/Stretches.antt`, from the theorems that are called.
use Rattle.held_log.proofs.Stretches.{held_unreleased}
use Rattle.held_log.proofs.theorems.held_unreleased.Goals as goal

pub returns : goal.returns
returns c = held_unreleased c.receiver_answers.ensures c.receiver_promise.ensures
