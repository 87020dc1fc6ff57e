-- The figures in their places.
use Rattle.c_hearing.proofs.figures.read.Goals as goal

pub returns : goal.returns
returns c = rw (c.word.ensures, c.pair.ensures)
