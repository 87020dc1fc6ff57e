-- None is there exactly where no error waits.
use Rattle.link.proofs.Resting.{none_is}
use Rattle.link.proofs.quiet.no_error.Goals as goal

pub returns : goal.returns
returns c = none_is _ _ c.is_none.ensures
