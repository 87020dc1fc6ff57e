-- By the span.
use Rattle.held_notes.proofs.Calls.{by_span}
use Rattle.held_notes.proofs.held.after_loss.Goals as goal

pub returns-in-None : goal.returns-in-None
returns-in-None c = by_span _ _ c.in-None.is c.unchanged.ensures

pub returns-in-Some : goal.returns-in-Some
returns-in-Some c = by_span _ _ c.in-Some.is c.silence_all.ensures
