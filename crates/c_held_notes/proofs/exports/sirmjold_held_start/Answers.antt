-- The library's start, as numbers.
use mathlib.Core.Path.{ap, ◌∙◌}
use Rattle.c_held_notes.specs.Numbers.{given_of}
use Rattle.c_held_notes.proofs.exports.sirmjold_held_start.Goals as goal

pub returns : goal.returns
returns c = c.as_numbers.ensures ∙ ap given_of c.start-g.ensures
