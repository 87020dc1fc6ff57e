-- Nothing is missing after the number, so the timer is stopped.
use mathlib.Core.Path.{ap, ◌∙◌}
use Rattle.window.specs.declared.window.Arrival.{Arrival}
use Rattle.window.proofs.InOrder.{in_order_complete}
use Rattle.receiver.specs.Receiver.{nothing_missing}
use Rattle.receiver.proofs.Validity.{valid_window, valid_taken}
use Rattle.c_state.specs.Stream.{with_receiver}
use Rattle.c_state.proofs.Streams.{receiver_known}
use Rattle.c_state.proofs.Hearings.{valid_narrow, settled_rest, heard_into_lem}
use Rattle.c_state.proofs.receiving.hear_next.Goals as goal

pub accept_next-taken-requires : goal.accept_next-taken-requires
accept_next-taken-requires c = (valid_window _ c.requires.2, c.requires.3)

pub store_rest-requires : goal.store_rest-requires
store_rest-requires c = ((receiver_known _ c.requires.0).0, valid_narrow _ (valid_taken _ (valid_window _ c.requires.2) _ _ c.accept_next-taken.ensures))

pub returns : goal.returns
returns c = heard_into_lem _ _ _ _ _ _ _ _ c.accept_next-taken.ensures (c.store_rest.ensures ∙ ap (with_receiver c.args.words.now) (settled_rest _ _ _ _ _ (ap (λ (x : Arrival). nothing_missing x.window) c.accept_next-taken.ensures ∙ in_order_complete _ (valid_window _ c.requires.2) _ c.requires.3))) c.gap.ensures
