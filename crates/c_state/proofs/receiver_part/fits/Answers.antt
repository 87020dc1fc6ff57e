-- All but the timer, then the timer.
use mathlib.Core.Path.{sym, ◌∙◌}
use Rattle.c_state.proofs.Receivers.{but_timer_flags, but_timer_fails, timer_last}
use native.Mathlib.Omega.{arith}
use Rattle.c_state.proofs.receiver_part.fits.Goals as goal

pub overflow_cast-words : goal.overflow_cast-words
overflow_cast-words c = omega (arith, but_timer_flags _ (sym c.fits_but_timer.ensures ∙ c.if-fits_but_timer.true))

pub returns-then-fits_but_timer : goal.returns-then-fits_but_timer
returns-then-fits_but_timer c = c.held.ensures ∙ timer_last _ (sym c.fits_but_timer.ensures ∙ c.if-fits_but_timer.true) _ _ c.two-small.ensures c.flags_in-on.ensures

pub returns : goal.returns
returns c = but_timer_fails _ (sym c.fits_but_timer.ensures ∙ c.if-fits_but_timer.false)
