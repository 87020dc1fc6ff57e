-- Nothing is missing after the number, so the timer is stopped.
use mathlib.Core.Path.{ap, ◌∙◌}
use Rattle.window.specs.declared.window.Arrival.{Arrival}
use Rattle.window.proofs.InOrder.{in_order_complete}
use Rattle.receiver.specs.Receiver.{nothing_missing}
use Rattle.receiver.proofs.Validity.{valid_window}
use Rattle.receiver.proofs.Settled.{settled_none, heard_of_lem}
use Rattle.receiver.proofs.tested.heard_next.Goals as goal

pub accept_next-taken-requires : goal.accept_next-taken-requires
accept_next-taken-requires c = (valid_window _ c.requires.0, c.requires.1)

pub returns : goal.returns
returns c =
    heard_of_lem _ _ _ _ _ _ _ c.accept_next-taken.ensures (c.rest.ensures ∙ settled_none _ _ _ _ _ (ap (λ (x : Arrival). nothing_missing x.window) c.accept_next-taken.ensures ∙ in_order_complete _ (valid_window _ c.requires.0) _ c.requires.1)) c.gap.ensures
