-- The notes passed that are held stand in front, and as many places are taken.
use Rattle.held_notes.proofs.Lists.{Listed}
use Rattle.held_notes.proofs.listing.listed.Given as goal

abbrev pub invariant-loop-note : goal.invariant-loop-note
invariant-loop-note l = Listed l.held l.note l.items l.count
