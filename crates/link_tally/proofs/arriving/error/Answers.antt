-- The stream's answer is counted as one error told, with at most one loss.
use mathlib.Core.List.{[]}
use native.Mathlib.Omega.{arith}
use Rattle.link_tally.proofs.Tallies as tallies
use Rattle.link_tally.proofs.arriving.error.Goals as goal

pub overflow_add-result : goal.overflow_add-result
overflow_add-result c = omega (arith, c.event_loss.ensures.1, c.requires.losses)

pub returns : goal.returns
returns c = tallies.error_told _ c.args.cfg 0 [] _ _ c.on_retransmit_error-told.ensures _ c.event_loss.ensures.0
