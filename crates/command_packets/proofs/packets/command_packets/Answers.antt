-- What is unread of a payload follows from the cursor core's answer.
use Rattle.command_packets.specs.Held.{opened_of}
use Rattle.command_packets.proofs.packets.command_packets.Goals as goal

pub returns : goal.returns
unfolding opened_of
returns c = rw (c.opened-rest.ensures, c.command_packets-answer.ensures)
