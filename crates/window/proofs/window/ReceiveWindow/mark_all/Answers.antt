-- The state is tested, and the rest is `tested::mark_all`.
use mathlib.Core.Path.{sym, ◌∙◌}
use Rattle.window.proofs.Validity.{valid_of_lem}
use Rattle.window.proofs.Answers.{changed_refused, changed_done}
use Rattle.window.proofs.window.ReceiveWindow.mark_all.Goals as goal

pub mark_all-requires : goal.mark_all-requires
mark_all-requires c = valid_of_lem _ (sym c.is_valid.ensures ∙ c.if-is_valid.true)

pub returns-then-is_valid : goal.returns-then-is_valid
returns-then-is_valid c =
    changed_done _ (sym c.is_valid.ensures ∙ c.if-is_valid.true) c.mark_all.ensures

pub returns : goal.returns
returns c = changed_refused _ (sym c.is_valid.ensures ∙ c.if-is_valid.false) _
