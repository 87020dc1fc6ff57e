-- The loss is that of the definition, over the missing positions.
use mathlib.Core.Path.{sym, subst, ap, ◌∙◌}
use Prim.Native.Nat.{ℕ, ◌^◌, ◌<◌}
use lib.Pow.{ones_sub-lt}
use Rattle.window.specs.Set.{val}
use Rattle.window.specs.Window.{missing_of}
use Rattle.window.specs.declared.window.Arrival.{Arrival}
use Rattle.window.proofs.Words.{val_is}
use Rattle.window.proofs.Arrivals.{new_lost_is}
use Rattle.window.proofs.Accepts.{new_distance, accept_new_is}
use Rattle.window.proofs.arrival.lost_to.Goals as goal
use Rattle.window.proofs.arrival.lost_to.Goals.{After-missing_set}

short : (c : After-missing_set) → val c.missing_set.result < 2 ^ c.args.w.size
unfolding missing_of
short c =
    subst (λ (x : ℕ). x < 2 ^ c.args.w.size) (sym (val_is _ _ c.missing_set.ensures)) (ones_sub-lt c.args.w.size (val c.args.w.bits))

pub lost-requires : goal.lost-requires
lost-requires c =
    let r = new_distance c.args.w c.args.seq c.distance.ensures c.requires.1 in
    (c.requires.0.some, c.requires.0.most, r.0, r.1, short (goal.at.lost-requires c).After-missing_set)

pub returns : goal.returns
returns c =
    new_lost_is _ _ _ c.missing_set.ensures c.lost.ensures ∙ ap (λ (t : Arrival). t.lost) (accept_new_is _ _ c.distance.ensures c.requires.1)
