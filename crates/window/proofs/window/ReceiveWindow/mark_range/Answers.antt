-- The state is tested, and the rest is `tested::mark_range`.
use mathlib.Core.Path.{ap, sym, ◌∙◌}
use Rattle.window.specs.declared.window.Marked.{Marked}
use Rattle.window.proofs.Validity.{valid_of_lem}
use Rattle.window.proofs.Answers.{extended_refused, extended_numbers}
use Rattle.window.proofs.window.ReceiveWindow.mark_range.Goals as goal

pub mark_range-marked-requires : goal.mark_range-marked-requires
mark_range-marked-requires c = valid_of_lem _ (sym c.is_valid.ensures ∙ c.if-is_valid.true)

pub returns-then-is_valid : goal.returns-then-is_valid
returns-then-is_valid c =
    extended_numbers _ (sym c.is_valid.ensures ∙ c.if-is_valid.true) (ap (λ (x : Marked). x.window) c.mark_range-marked.ensures) (ap (λ (x : Marked). x.span) c.mark_range-marked.ensures)

pub returns : goal.returns
returns c = extended_refused _ (sym c.is_valid.ensures ∙ c.if-is_valid.false) _ _
