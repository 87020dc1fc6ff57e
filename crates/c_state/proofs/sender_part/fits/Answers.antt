-- The flag, and the figures beside it.
use mathlib.Core.Path.{◌∙◌}
use Rattle.c_state.proofs.Senders.{flag_fails, idle_last}
use Rattle.c_state.proofs.sender_part.fits.Goals as goal

pub returns-then-top-gt1 : goal.returns-then-top-gt1
returns-then-top-gt1 c = flag_fails _ _ _ c.four-small.ensures c.two-top.ensures c.if-top-gt1.true

pub returns : goal.returns
returns c = c.held.ensures ∙ idle_last _ _ _ c.four-small.ensures c.two-top.ensures c.if-top-gt1.false
