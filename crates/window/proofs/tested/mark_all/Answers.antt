-- The fresh set, under the highest as it is.
use Rattle.window.proofs.tested.mark_all.Goals as goal

pub returns : goal.returns
returns c = c.starting_at.ensures
