-- Nothing happens.
use mathlib.Core.Path.{refl}
use Rattle.held_notes.specs.Answers.{given_by}
use Rattle.held_notes.proofs.held.unchanged.Goals as goal

pub returns : goal.returns
unfolding given_by
returns c = record { group = refl; held = λ k. refl; notes = c.no_notes-notes.ensures; answer = refl }
