-- The answer as its number.
use Rattle.c_held_notes.specs.Numbers.{given_of}
use Rattle.c_held_notes.proofs.exports.as_numbers.Goals as goal

pub returns : goal.returns
unfolding given_of
returns c = rw c.number-refusal.ensures
