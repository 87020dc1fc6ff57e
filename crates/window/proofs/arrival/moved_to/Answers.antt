-- The set is that of the definition, cut at the size.
use mathlib.Core.Path.{ap, ◌∙◌}
use Rattle.window.specs.declared.window.Arrival.{Arrival}
use Rattle.window.proofs.Moves.{moved_set_is}
use Rattle.window.proofs.Arrivals.{new_window_is}
use Rattle.window.proofs.Accepts.{new_distance, accept_new_is}
use Rattle.window.proofs.arrival.moved_to.Goals as goal

pub moved-up-requires : goal.moved-up-requires
moved-up-requires c =
    new_distance c.args.w c.args.seq c.distance.ensures c.requires.1

pub returns : goal.returns
returns c =
    new_window_is _ _ _ (moved_set_is c.args.w c.lowest.ensures c.requires.0.most c.distance.result c.moved-up.ensures c.both.ensures)
    ∙ ap (λ (t : Arrival). t.window) (accept_new_is _ _ c.distance.ensures c.requires.1)
