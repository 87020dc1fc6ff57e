-- A whole command's bytes are the cursor core's.
use Rattle.command_packets.proofs.Parts.{payload_whole}
use Rattle.command_packets.proofs.unread.payload.Goals as goal

pub returns-in-Command : goal.returns-in-Command
returns-in-Command c = payload_whole _ _ _ _ _ _ c.in-Command.is c.body.ensures
