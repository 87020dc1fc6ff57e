-- The number is in order, ahead or behind, and each way meets the contract.
use mathlib.Core.Path.{sym, ◌∙◌}
use Rattle.receiver.proofs.Validity.{valid_window}
use Rattle.c_state.proofs.receiving.hear_valid.Goals as goal

pub in_order-requires : goal.in_order-requires
in_order-requires c = valid_window _ c.requires.2

pub hear_next-requires : goal.hear_next-requires
hear_next-requires c = (c.requires.0, c.requires.1, c.requires.2, sym c.in_order.ensures ∙ c.if-in_order.true)

pub hear_ahead-requires : goal.hear_ahead-requires
hear_ahead-requires c = (c.requires.0, c.requires.1, c.requires.2, sym c.is_ahead.ensures ∙ c.if-is_ahead.true)

pub hear_behind-requires : goal.hear_behind-requires
hear_behind-requires c = (c.requires.0, c.requires.1, c.requires.2, sym c.is_ahead.ensures ∙ c.if-is_ahead.false)
