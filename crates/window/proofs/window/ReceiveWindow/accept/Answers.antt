-- The state is tested. Then a number is in order, ahead or behind, and each way takes it as `accept_of` does.
use mathlib.Core.Path.{◌≡◌, sym, ◌∙◌}
use mathlib.Core.Bool.{true}
use Rattle.config.specs.Range.{within}
use Rattle.config.specs.Sequence.{ahead}
use Rattle.window.specs.Window.{Valid, valid_of}
use Rattle.window.specs.Arrival.{reach}
use Rattle.window.proofs.Validity.{valid_of_lem}
use Rattle.window.proofs.Accepts.{taken_is}
use Rattle.window.proofs.Answers.{accept_refused, accept_heard}
use Rattle.window.proofs.window.ReceiveWindow.accept.Goals as goal
use Rattle.window.proofs.window.ReceiveWindow.accept.Goals.{Then-is_ahead, Then-is_valid}

tested : (c : Then-is_valid) → valid_of c.args.self ≡ true
tested c = sym c.is_valid.ensures ∙ c.if-is_valid.true

-- what the steps of the way ahead require
to : (c : Then-is_ahead) → valid_of c.args.self ≡ true → Valid c.args.self × (within 1 reach (ahead c.args.self.highest c.args.seq) ≡ true)
to c t = (valid_of_lem _ t, sym c.is_ahead.ensures ∙ c.if-is_ahead.true)

pub in_order-requires : goal.in_order-requires
in_order-requires c = valid_of_lem _ (tested (goal.at.in_order-requires c).Then-is_valid)

pub accept_next-requires : goal.accept_next-requires
accept_next-requires c =
    (valid_of_lem _ (tested (goal.at.accept_next-requires c).Then-is_valid), sym c.in_order.ensures ∙ c.if-in_order.true)

pub returns-then-in_order : goal.returns-then-in_order
returns-then-in_order c = c.heard.ensures ∙ accept_heard _ (tested (goal.at.returns-then-in_order c).Then-is_valid) _ c.accept_next.ensures

pub lost_to-lost-requires : goal.lost_to-lost-requires
lost_to-lost-requires c = to (goal.at.lost_to-lost-requires c).Then-is_ahead (tested (goal.at.lost_to-lost-requires c).Then-is_valid)

pub moved_to-requires : goal.moved_to-requires
moved_to-requires c = to (goal.at.moved_to-requires c).Then-is_ahead (tested (goal.at.moved_to-requires c).Then-is_valid)

pub class_ahead-requires : goal.class_ahead-requires
class_ahead-requires c = (to (goal.at.class_ahead-requires c).Then-is_ahead (tested (goal.at.class_ahead-requires c).Then-is_valid)).1

pub returns-then-is_ahead : goal.returns-then-is_ahead
returns-then-is_ahead c =
    accept_heard _ (tested (goal.at.returns-then-is_ahead c).Then-is_valid) _ (taken_is _ c.moved_to.ensures c.class_ahead.ensures c.lost_to-lost.ensures)

pub accept_behind-requires : goal.accept_behind-requires
accept_behind-requires c =
    (valid_of_lem _ (tested (goal.at.accept_behind-requires c).Then-is_valid), sym c.is_ahead.ensures ∙ c.if-is_ahead.false)

pub returns-then-is_valid : goal.returns-then-is_valid
returns-then-is_valid c =
    c.heard-then-is_valid.ensures ∙ accept_heard _ (tested (goal.at.returns-then-is_valid c).Then-is_valid) _ c.accept_behind.ensures

pub returns : goal.returns
returns c = accept_refused _ (sym c.is_valid.ensures ∙ c.if-is_valid.false) _
