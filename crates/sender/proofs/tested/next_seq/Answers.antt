-- The count of written commands is taken modulo a turn before it is added.
use Rattle.sender.proofs.Questions.{next_number}
use Rattle.sender.proofs.tested.next_seq.Goals as goal

pub returns : goal.returns
returns c = next_number _ _ c.add.ensures
