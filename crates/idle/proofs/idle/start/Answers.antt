-- The sum is the due time, and the step has T1's length.
use Rattle.idle.proofs.Steps.{started}
use Rattle.idle.proofs.idle.start.Goals as goal

pub returns : goal.returns
returns c = started c.args.cfg _ _ c.later_by.ensures
