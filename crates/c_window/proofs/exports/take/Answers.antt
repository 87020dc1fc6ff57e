-- Its words are stored.
use Rattle.c_window.proofs.exports.take.Goals as goal

pub returns : goal.returns
returns c = rw c.renewed.ensures
