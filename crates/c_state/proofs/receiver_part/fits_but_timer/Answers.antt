-- Each test is one of the definition, the first two together.
use mathlib.Core.Path.{◌∙◌}
use Rattle.c_state.proofs.Receivers.{upper_fails, flags_fail, asked_last}
use native.Mathlib.Omega.{arith}
use Rattle.c_state.proofs.receiver_part.fits_but_timer.Goals as goal

pub returns-then-words-ne0 : goal.returns-then-words-ne0
returns-then-words-ne0 c = upper_fails _ c.if-words-ne0.true

pub returns-then-words-gt-MOST : goal.returns-then-words-gt-MOST
returns-then-words-gt-MOST c = flags_fail _ c.if-words-ne0.false c.if-words-gt-MOST.true

pub overflow_cast-words : goal.overflow_cast-words
overflow_cast-words c = omega arith

pub returns : goal.returns
returns c = c.held.ensures ∙ asked_last _ c.if-words-ne0.false (omega arith) _ _ c.two-small.ensures c.flags_in-on.ensures
