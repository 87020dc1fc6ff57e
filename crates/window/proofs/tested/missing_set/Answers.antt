-- The other positions, cut at the size.
use Rattle.window.proofs.Moves.{missing_set_is}
use Rattle.window.proofs.tested.missing_set.Goals as goal

pub returns : goal.returns
returns c =
    missing_set_is _ c.lowest.ensures c.requires c.flipped.ensures c.both.ensures
