-- By what the receiver answered.
use native.Mathlib.Omega.{arith}
use Rattle.held_notes.proofs.Calls.{refuses, by_hearing}
use borrow.Author.Rules.{rules}
use Rattle.held_notes.proofs.held.delivered.Goals as goal

pub returns-then-state-gt15 : goal.returns-then-state-gt15
returns-then-state-gt15 c = refuses _ _ _ (omega arith) c.refused.ensures

pub returns-in-Ok : goal.returns-in-Ok
returns-in-Ok c = by_hearing _ c.heard.result (search rules) _ c.in-Ok.is (omega arith) c.heard.ensures

pub returns-in-Err : goal.returns-in-Err
returns-in-Err c = by_hearing _ c.unchanged.result (search rules) _ c.in-Err.is (omega arith) c.unchanged.ensures
