-- All are given.
use native.Mathlib.Omega.{arith}
use Rattle.held_notes.proofs.Calls.{refuses, answers}
use borrow.Author.Rules.{rules}
use Rattle.held_notes.proofs.held.restarted.Goals as goal

pub returns-then-state-gt15 : goal.returns-then-state-gt15
returns-then-state-gt15 c = refuses _ _ _ (omega arith) c.refused.ensures

pub returns : goal.returns
returns c = answers _ c.silence_all.result (search rules) _ (omega arith) c.silence_all.ensures
