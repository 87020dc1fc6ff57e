-- The library's call, on the answer that the numbers stand for.
use Rattle.c_held_notes.proofs.Numbers.{by_hearing}
use Rattle.c_held_notes.proofs.exports.sirmjold_held_delivered.Goals as goal

pub returns : goal.returns
returns c = by_hearing _ _ _ _ c.hearing_of-hearing.ensures c.delivered-g.ensures c.as_numbers.ensures
