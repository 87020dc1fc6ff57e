-- The words of the window, and the others as they are.
use Rattle.c_state.proofs.Receivers.{window_words_lem}
use Rattle.c_state.proofs.receiver_part.with_window.Goals as goal

pub returns : goal.returns
returns c = window_words_lem _ _ _ _ c.requires.1 c.four-figures.ensures c.word.ensures
