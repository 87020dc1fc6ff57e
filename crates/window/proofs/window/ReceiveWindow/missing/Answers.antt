-- The state is tested, and the rest is `tested::missing`.
use mathlib.Core.Path.{refl, sym, ◌∙◌}
use Rattle.window.proofs.Validity.{valid_of_lem}
use Rattle.window.proofs.Answers.{extended_refused, extended_numbers}
use Rattle.window.proofs.window.ReceiveWindow.missing.Goals as goal

pub missing-requires : goal.missing-requires
missing-requires c = valid_of_lem _ (sym c.is_valid.ensures ∙ c.if-is_valid.true)

pub returns-then-is_valid : goal.returns-then-is_valid
returns-then-is_valid c =
    extended_numbers _ (sym c.is_valid.ensures ∙ c.if-is_valid.true) refl c.missing.ensures

pub returns : goal.returns
returns c = extended_refused _ (sym c.is_valid.ensures ∙ c.if-is_valid.false) _ _
