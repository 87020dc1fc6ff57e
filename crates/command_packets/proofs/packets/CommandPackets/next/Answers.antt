-- The reader's step is the cursor's at the front of the unread bytes: the item, its bytes and what is unread after it.
use Rattle.command_packets.specs.Held.{step_of}
use Rattle.command_packets.proofs.packets.CommandPackets.next.Goals as goal

pub returns : goal.returns
unfolding step_of
returns c = rw (c.after-after.ensures, c.payload-payload.ensures, c.front-item.ensures)
