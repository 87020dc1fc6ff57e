-- The state is tested, and the rest is `tested::is_processed`.
use mathlib.Core.Path.{sym, ◌∙◌}
use Rattle.window.proofs.Validity.{valid_of_lem}
use Rattle.window.proofs.Answers.{processed_refused, processed_known}
use Rattle.window.proofs.window.ReceiveWindow.is_processed.Goals as goal

pub is_processed-requires : goal.is_processed-requires
is_processed-requires c = valid_of_lem _ (sym c.is_valid.ensures ∙ c.if-is_valid.true)

pub returns-then-is_valid : goal.returns-then-is_valid
returns-then-is_valid c =
    processed_known _ (sym c.is_valid.ensures ∙ c.if-is_valid.true) _ c.is_processed.ensures

pub returns : goal.returns
returns c = processed_refused _ (sym c.is_valid.ensures ∙ c.if-is_valid.false) _
