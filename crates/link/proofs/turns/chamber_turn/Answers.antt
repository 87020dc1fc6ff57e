-- Poll and write, each by its contract; the poll's event is at most one loss.
use native.Mathlib.Omega.{arith}
use Rattle.link.proofs.Turning as turning
use Rattle.link.proofs.turns.chamber_turn.Goals as goal

pub returns : goal.returns
returns c = (turning.chamber_is _ _ _ _ _ c.requires _ c.poll-told.ensures _ c.write.ensures.0, turning.poll_loss_is _ _ _ _ c.poll-told.ensures _ _ c.event_loss.ensures.0 c.write.ensures.1, omega (arith, c.event_loss.ensures.1, c.write.ensures.1))
