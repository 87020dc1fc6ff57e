-- Each figure in its place.
use Rattle.c_state.proofs.Receivers.{receiver_words_lem}
use native.Mathlib.Omega.{arith}
use Rattle.c_state.proofs.receiver_part.words_of.Goals as goal

pub overflow_cast-window : goal.overflow_cast-window
overflow_cast-window c = omega (arith, c.requires)

pub returns : goal.returns
returns c =
    receiver_words_lem c.args.receiver _ _ _ _ _
    c.timer_words-timer.ensures
    c.asked_words-asked.ensures
    c.number-on.ensures
    c.word.ensures
    c.pair.ensures
