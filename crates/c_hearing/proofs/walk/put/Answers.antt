-- The four words are stored.
use Rattle.c_hearing.specs.Walk.{answered}
use Rattle.c_hearing.proofs.walk.put.Goals as goal

pub returns : goal.returns
unfolding answered
returns c = c.put.ensures
