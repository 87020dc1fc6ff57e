-- Each test is one of the definition's, in its order.
use mathlib.Core.Path.{sym, ◌∙◌}
use Rattle.sender.proofs.Queued.{check_parts, check_long, check_passed}
use Rattle.sender.proofs.tested.check.Goals as goal

pub fit-requires : goal.fit-requires
fit-requires c = sym c.whole_messages.ensures ∙ c.if-whole_messages.true

pub returns-then-fit : goal.returns-then-fit
returns-then-fit c =
    check_passed _ _ (sym c.whole_messages.ensures ∙ c.if-whole_messages.true) _ c.fit.ensures c.if-fit.true

pub returns-then-whole_messages : goal.returns-then-whole_messages
returns-then-whole_messages c =
    check_long _ _ (sym c.whole_messages.ensures ∙ c.if-whole_messages.true) _ c.fit.ensures c.if-fit.false

pub returns : goal.returns
returns c = check_parts _ _ (sym c.whole_messages.ensures ∙ c.if-whole_messages.false)
