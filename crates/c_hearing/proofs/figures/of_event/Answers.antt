-- The figures in their places.
use Rattle.c_hearing.proofs.figures.of_event.Goals as goal

pub returns : goal.returns
returns c = rw (c.word-2.ensures, c.word.ensures, c.pair.ensures)
