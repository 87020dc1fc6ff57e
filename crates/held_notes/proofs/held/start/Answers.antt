-- The group is tested first.
use native.Mathlib.Omega.{arith}
use Rattle.held_notes.proofs.Calls.{start_refused, start_done}
use Rattle.held_notes.proofs.held.start.Goals as goal

pub returns-then-group-gt15 : goal.returns-then-group-gt15
returns-then-group-gt15 c = start_refused _ _ (omega arith) c.refused.ensures

pub returns : goal.returns
returns c = start_done _ _ (omega arith) c.no_notes-notes.ensures
