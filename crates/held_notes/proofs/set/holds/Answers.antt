-- The bit is read as the definition reads it.
use borrow.Author.Rules.{rules}
use Rattle.held_notes.specs.State.{has}
use Rattle.held_notes.proofs.set.holds.Goals as goal

pub returns : goal.returns
unfolding has
returns c = search rules
