-- The test chooses as the definition does.
use Rattle.rows.proofs.Choice.{reach_all, reach_some}
use Rattle.rows.proofs.rows.reach.Goals as goal

pub returns-then-count-eq0 : goal.returns-then-count-eq0
returns-then-count-eq0 c = reach_all _ _ c.if-count-eq0.true

pub returns : goal.returns
returns c = reach_some _ _ _ c.if-count-eq0.false c.least.ensures
