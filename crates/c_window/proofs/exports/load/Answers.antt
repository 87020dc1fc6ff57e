-- Words that pass the test fit.
use Rattle.c_window.proofs.Windows.{window_known}
use Rattle.c_window.proofs.exports.load.Goals as goal

pub known-requires : goal.known-requires
known-requires c = window_known _ c.requires
