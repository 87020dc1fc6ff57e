-- The window takes the number and stays valid; no timer starts.
use mathlib.Core.Path.{ap, ◌∙◌}
use Rattle.window.specs.declared.window.Arrival.{Arrival}
use Rattle.receiver.specs.Receiver.{is_gap}
use Rattle.receiver.proofs.Validity.{valid_window, valid_taken}
use Rattle.c_state.specs.Stream.{with_receiver}
use Rattle.c_state.proofs.Hearings.{kept_settled, behind_no_gap, heard_into_lem}
use Rattle.c_state.proofs.receiving.hear_behind.Goals as goal

pub accept_behind-taken-requires : goal.accept_behind-taken-requires
accept_behind-taken-requires c = (valid_window _ c.requires.2, c.requires.3)

pub settle_behind-requires : goal.settle_behind-requires
settle_behind-requires c = (c.requires.0, c.requires.1, valid_taken _ (valid_window _ c.requires.2) _ _ c.accept_behind-taken.ensures)

pub returns : goal.returns
returns c = heard_into_lem _ _ _ _ _ _ _ _ c.accept_behind-taken.ensures (c.settle_behind.ensures ∙ ap (with_receiver c.args.words.now) (kept_settled _ _ _ _ _ (ap (λ (x : Arrival). is_gap x.class) c.accept_behind-taken.ensures ∙ behind_no_gap _ _ c.requires.3))) c.gap.ensures
