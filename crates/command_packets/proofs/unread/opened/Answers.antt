-- The answer tells where the unread bytes begin; from the end on there are none.
use Rattle.command_packets.proofs.Parts.{unread_at_lem, unread_refused}
use Rattle.command_packets.proofs.unread.opened.Goals as goal

pub returns-in-Ok : goal.returns-in-Ok
returns-in-Ok c = unread_at_lem _ _ _ _ c.in-Ok.is c.from.ensures

pub returns-in-Err : goal.returns-in-Err
returns-in-Err c = unread_refused _ _ _ _ c.in-Err.is c.from-in-Err.ensures
