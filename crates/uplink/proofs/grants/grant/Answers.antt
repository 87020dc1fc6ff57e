-- The row from the turn on is served before the row up to it.
use Rattle.std.proofs.Common.{refl, sym, ◌∙◌, length}
use Rattle.uplink.proofs.Sums.{firsts_fit}
use Rattle.uplink.proofs.Steps.{number_in, step_granted, grants_stored}
use Rattle.uplink.proofs.grants.grant.Goals as goal

pub rest-left-requires : goal.rest-left-requires
rest-left-requires c = firsts_fit c.args.words c.args.wants.now

pub returns : goal.returns
returns c =
    let m = number_in (length c.args.wants.now) (sym c.outside.ensures ∙ c.if-outside.false) in
    step_granted c.args.words c.args.turn c.args.wants.now (sym c.outside.ensures ∙ c.if-outside.false) c.if-n-first.false _ _
    (grants_stored c.args.words c.args.turn c.args.wants.now c.if-n-first.false m.1 _ _ _ _ refl c.rest-left.ensures c.serve-from.ensures c.serve-round.ensures)
    c.next.ensures
