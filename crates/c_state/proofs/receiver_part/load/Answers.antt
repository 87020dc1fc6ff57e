-- Each field is a figure.
use Rattle.c_state.proofs.Receivers.{receiver_made}
use native.Mathlib.Omega.{arith}
use Rattle.c_state.proofs.receiver_part.load.Goals as goal

pub overflow_cast-words : goal.overflow_cast-words
overflow_cast-words c = omega (arith, c.requires.1)

pub returns : goal.returns
returns c = receiver_made _ _ _ _ _ _ _ c.four-figures.ensures c.two-small.ensures c.flags_in-on.ensures c.window_in.ensures c.timer_in.ensures c.asked_in.ensures
