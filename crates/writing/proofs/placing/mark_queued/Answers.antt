-- The oldest where the mark's entry has left, else the mark's place, so many entries nearer to the oldest.
use mathlib.Core.Path.{◌∙◌}
use Rattle.writing.proofs.Places.{mark_left, mark_stays}
use Rattle.writing.proofs.placing.mark_queued.Goals as goal

pub returns-then-from-gone : goal.returns-then-from-gone
returns-then-from-gone c = c.oldest.ensures ∙ mark_left _ _ _ c.if-from-gone.true

pub returns : goal.returns
returns c = mark_stays _ _ _ c.if-from-gone.false
