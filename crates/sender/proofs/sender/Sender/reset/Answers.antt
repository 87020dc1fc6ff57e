-- The state is tested, and the rest is `tested::reset`.
use mathlib.Core.Path.{sym, ◌∙◌}
use Rattle.sender.proofs.Answers.{reset_refused_lem, reset_done}
use Rattle.sender.proofs.sender.Sender.reset.Goals as goal

pub reset-requires : goal.reset-requires
reset-requires c = sym c.is_valid.ensures ∙ c.if-is_valid.true

pub returns-then-is_valid : goal.returns-then-is_valid
returns-then-is_valid c = reset_done _ _ (sym c.is_valid.ensures ∙ c.if-is_valid.true) _ _ c.reset.ensures

pub returns : goal.returns
returns c = reset_refused_lem _ _ (sym c.is_valid.ensures ∙ c.if-is_valid.false)
