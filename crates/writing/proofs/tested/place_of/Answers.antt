-- The mark's own place, or the one that the walk finds.
use Rattle.history.proofs.Past.{mark_here}
use Rattle.writing.proofs.tested.place_of.Goals as goal

pub returns-then-from-k : goal.returns-then-from-k
returns-then-from-k c = mark_here c.args.h _ _ _ c.requires.2 c.if-from-k.true

pub index_of-requires : goal.index_of-requires
index_of-requires c = (c.requires.0, c.requires.1, c.requires.2)

pub returns : goal.returns
returns c = c.index_of.ensures
