-- The library's call, on the event that the number stands for.
use Rattle.c_held_notes.proofs.Numbers.{by_event}
use Rattle.c_held_notes.proofs.exports.sirmjold_held_told.Goals as goal

pub returns : goal.returns
returns c = by_event _ _ _ c.event_of-event.ensures c.told-g.ensures c.as_numbers.ensures
