-- Nothing is missing where every position of the window is set.
use mathlib.Core.Path.{◌∙◌}
use Rattle.window.proofs.Moves.{complete_is}
use Rattle.window.proofs.tested.complete.Goals as goal

pub is_lowest-requires : goal.is_lowest-requires
is_lowest-requires c = (c.requires.some, c.requires.most, c.requires.inside)

pub returns : goal.returns
returns c = c.is_lowest.ensures ∙ complete_is _ c.requires
