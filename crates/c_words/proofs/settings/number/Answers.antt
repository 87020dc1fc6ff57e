-- By the tests in their order.
use native.Mathlib.Omega.{arith}
use Rattle.std.proofs.Common.{Ok, Err}
use mathlib.Core.Path.{sym, ap, ◌∙◌}
use mathlib.Core.Bool.{Bool}
use Rattle.config.specs.Entry.{on_state}
use Rattle.config.specs.Refusals.{outcome_number}
use Rattle.c_words.proofs.Figures.{not_eight, own_refused, own_passed}
use Rattle.c_words.proofs.settings.number.Goals as goal

pub returns-then-words-ne8 : goal.returns-then-words-ne8
returns-then-words-ne8 c = not_eight _ c.if-words-ne8.true

pub returns-in-Err : goal.returns-in-Err
returns-in-Err c = c.number.ensures ∙ own_refused _ (omega arith) _ (sym c.in-Err.is ∙ c.check.ensures)

pub returns-in-Ok : goal.returns-in-Ok
returns-in-Ok c = c.fit.ensures ∙ ap (λ (t : Bool). outcome_number (on_state t Err (Ok tt))) c.narrow.ensures ∙ own_passed _ (omega arith) (sym c.in-Ok.is ∙ c.check.ensures)
