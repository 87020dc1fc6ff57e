-- In order, ahead or behind, and each way meets the contract.
use mathlib.Core.Path.{sym, ap, ◌∙◌}
use Rattle.window.proofs.Validity.{valid_of_lem}
use Rattle.c_window.specs.Window.{taken_into}
use Rattle.c_window.proofs.Accepting.{accepted_valid, accepted_refused}
use Rattle.c_window.proofs.exports.accept.Goals as goal

pub in_order-requires : goal.in_order-requires
in_order-requires c = valid_of_lem _ (sym c.is_valid.ensures ∙ c.if-is_valid.true)

pub accept_next-requires : goal.accept_next-requires
accept_next-requires c = (valid_of_lem _ (sym c.is_valid.ensures ∙ c.if-is_valid.true), sym c.in_order.ensures ∙ c.if-in_order.true)

pub returns-then-in_order : goal.returns-then-in_order
returns-then-in_order c = c.take.ensures ∙ ap taken_into c.accept_next.ensures ∙ accepted_valid _ _ (sym c.is_valid.ensures ∙ c.if-is_valid.true)

pub take_ahead-requires : goal.take_ahead-requires
take_ahead-requires c = (c.requires.0, valid_of_lem _ (sym c.is_valid.ensures ∙ c.if-is_valid.true), sym c.is_ahead.ensures ∙ c.if-is_ahead.true)

pub returns-then-is_ahead : goal.returns-then-is_ahead
returns-then-is_ahead c = c.take_ahead.ensures ∙ accepted_valid _ _ (sym c.is_valid.ensures ∙ c.if-is_valid.true)

pub take_behind-requires : goal.take_behind-requires
take_behind-requires c = (c.requires.0, c.requires.1, valid_of_lem _ (sym c.is_valid.ensures ∙ c.if-is_valid.true), sym c.is_ahead.ensures ∙ c.if-is_ahead.false)

pub returns-then-is_valid : goal.returns-then-is_valid
returns-then-is_valid c = c.take_behind.ensures ∙ accepted_valid _ _ (sym c.is_valid.ensures ∙ c.if-is_valid.true)

pub returns : goal.returns
returns c = accepted_refused _ _ _ c.requires.0 c.requires.1 (sym c.is_valid.ensures ∙ c.if-is_valid.false)
