-- A whole command tells the next place, and from the end on there is nothing.
use Rattle.command_packets.proofs.Parts.{after_whole, after_cut}
use Rattle.command_packets.proofs.unread.after.Goals as goal

pub returns-in-Command : goal.returns-in-Command
returns-in-Command c = after_whole _ _ _ _ _ _ c.in-Command.is c.from.ensures

pub returns-in-Truncated : goal.returns-in-Truncated
returns-in-Truncated c = after_cut _ _ _ _ c.in-Truncated.is c.from-in-Truncated.ensures
