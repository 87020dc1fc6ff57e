-- Each way out is a case of `class_of`, by the tests that the code has passed.
use mathlib.Core.Path.{sym, ◌∙◌}
use native.Mathlib.Omega.{arith}
use Rattle.window.specs.Arrival.{reach}
use Rattle.config.specs.inner.Ranges.{within_range}
use Rattle.window.proofs.Classes.{classify_new, classify_late, classify_duplicate}
use Rattle.window.proofs.arrival.classify.Goals as goal

pub overflow_sub-result : goal.overflow_sub-result
overflow_sub-result c = let r = within_range 1 reach c.distance-d.result (sym c.is_new.ensures ∙ c.if-is_new.true) in omega arith

pub returns-then-is_new : goal.returns-then-is_new
returns-then-is_new c =
    classify_new _ _ c.distance-d.ensures (sym c.is_new.ensures ∙ c.if-is_new.true)

pub returns-then-processed_at : goal.returns-then-processed_at
returns-then-processed_at c =
    classify_duplicate _ _ c.distance-d.ensures (sym c.is_new.ensures ∙ c.if-is_new.false) c.distance.ensures
    (sym c.processed_at.ensures ∙ c.if-processed_at.true)

pub returns : goal.returns
returns c =
    classify_late _ _ c.distance-d.ensures (sym c.is_new.ensures ∙ c.if-is_new.false) c.distance.ensures
    (sym c.processed_at.ensures ∙ c.if-processed_at.false)
