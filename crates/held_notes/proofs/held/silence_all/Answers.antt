-- All are listed, and no bit is left.
use mathlib.Core.Path.{refl}
use Rattle.held_notes.specs.Answers.{given_by}
use Rattle.held_notes.proofs.Calls.{none_held_lem}
use Rattle.held_notes.proofs.held.silence_all.Goals as goal

pub returns : goal.returns
unfolding given_by
returns c = record { group = refl; held = λ k. none_held_lem _ _ k; notes = c.listed-notes.ensures; answer = refl }
