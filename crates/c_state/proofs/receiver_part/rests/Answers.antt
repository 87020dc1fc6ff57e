-- All but the timer, then the timer by its flag.
use mathlib.Core.Path.{sym, ◌∙◌}
use Rattle.c_state.proofs.Receivers.{but_timer_flags, rests_fails, running_rests, stopped_rests}
use native.Mathlib.Omega.{arith}
use Rattle.c_state.proofs.receiver_part.rests.Goals as goal

pub overflow_cast-words : goal.overflow_cast-words
overflow_cast-words c = omega (arith, but_timer_flags _ (sym c.fits_but_timer.ensures ∙ c.if-fits_but_timer.true))

pub returns-then-on : goal.returns-then-on
returns-then-on c = running_rests _ (sym c.fits_but_timer.ensures ∙ c.if-fits_but_timer.true) _ _ c.two-small.ensures c.flags_in-on.ensures _ c.if-on.true

pub returns-then-fits_but_timer : goal.returns-then-fits_but_timer
returns-then-fits_but_timer c = c.held.ensures ∙ stopped_rests _ (sym c.fits_but_timer.ensures ∙ c.if-fits_but_timer.true) _ _ c.two-small.ensures c.flags_in-on.ensures _ c.if-on.false

pub returns : goal.returns
returns c = rests_fails _ _ (sym c.fits_but_timer.ensures ∙ c.if-fits_but_timer.false)
