-- The state is tested, and the rest is `arrival::classify`.
use mathlib.Core.Path.{sym, ◌∙◌}
use Rattle.window.proofs.Validity.{valid_of_lem}
use Rattle.window.proofs.Answers.{class_refused, class_found}
use Rattle.window.proofs.window.ReceiveWindow.classify.Goals as goal

pub classify-requires : goal.classify-requires
classify-requires c = valid_of_lem _ (sym c.is_valid.ensures ∙ c.if-is_valid.true)

pub returns-then-is_valid : goal.returns-then-is_valid
returns-then-is_valid c =
    class_found _ (sym c.is_valid.ensures ∙ c.if-is_valid.true) _ c.classify.ensures

pub returns : goal.returns
returns c = class_refused _ (sym c.is_valid.ensures ∙ c.if-is_valid.false) _
