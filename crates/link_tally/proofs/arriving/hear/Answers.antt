-- The stream's answer is counted as one data command heard: handed on if New or Late, with at most one loss.
use mathlib.Core.List.{[]}
use native.Mathlib.Omega.{arith}
use Rattle.link_tally.proofs.Tallies as tallies
use Rattle.link_tally.proofs.arriving.hear.Goals as goal

pub overflow_add-result : goal.overflow_add-result
overflow_add-result c = omega (arith, c.hands_on.ensures.1, c.requires.handed)

pub overflow_add-result-in-Ok : goal.overflow_add-result-in-Ok
overflow_add-result-in-Ok c = omega (arith, c.span_loss.ensures.1, c.requires.losses)

pub returns-in-Err : goal.returns-in-Err
returns-in-Err c = tallies.hear_refused _ _ _ [] _ _ c.on_ump_data-heard.ensures _ c.in-Err.is

pub returns-in-Ok : goal.returns-in-Ok
returns-in-Ok c = tallies.hear_delivered _ _ _ [] _ _ c.on_ump_data-heard.ensures _ c.in-Ok.is _ _ c.hands_on.ensures.0 c.span_loss.ensures.0
