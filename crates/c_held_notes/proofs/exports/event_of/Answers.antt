-- By the kind.
use Rattle.c_held_notes.proofs.Numbers.{event_loss_lem, event_error_loss, event_none}
use Rattle.c_held_notes.proofs.exports.event_of.Goals as goal

pub returns-then-kind-eq1 : goal.returns-then-kind-eq1
returns-then-kind-eq1 c = event_loss_lem _ c.if-kind-eq1.true

pub returns-then-kind-eq2 : goal.returns-then-kind-eq2
returns-then-kind-eq2 c = event_error_loss _ c.if-kind-eq1.false c.if-kind-eq2.true

pub returns : goal.returns
returns c = event_none _ c.if-kind-eq1.false c.if-kind-eq2.false
