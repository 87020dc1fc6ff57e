-- The state, no notes, and 12.
use Rattle.held_notes.specs.Answers.{refused_of}
use Rattle.held_notes.proofs.held.refused.Goals as goal

pub returns : goal.returns
unfolding refused_of
returns c = rw c.no_notes-notes.ensures
