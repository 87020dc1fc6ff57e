-- The contract is the theorem of `proofs/Stretches.antt`, from the theorems that are called.
use Rattle.held_log.proofs.Stretches.{held_accepted}
use Rattle.held_log.proofs.theorems.held_accepted.Goals as goal

pub returns : goal.returns
returns c = held_accepted c.receiver_answers.ensures c.contract_sentence.ensures c.handed_words.ensures
