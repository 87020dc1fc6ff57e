use Rattle.command.proofs.Messages.{messages_walk}
use Rattle.command.proofs.theorems.messages_walk.Goals as goal

pub returns : goal.returns
returns c = messages_walk
