-- The oldest missing position is the highest of the set.
use mathlib.Core.Path.{sym, ◌∙◌}
use Rattle.window.proofs.Spans.{pos_of_not_empty, request_none, request_some}
use Rattle.window.proofs.tested.request.Goals as goal

pub returns-then-empty : goal.returns-then-empty
returns-then-empty c =
    request_none _ c.missing_set-m.ensures (sym c.empty.ensures ∙ c.if-empty.true)

pub top-requires : goal.top-requires
top-requires c = pos_of_not_empty _ (sym c.empty.ensures ∙ c.if-empty.false)

pub returns : goal.returns
returns c =
    request_some _ c.missing_set-m.ensures (sym c.empty.ensures ∙ c.if-empty.false) c.top.ensures.0 c.range_to.ensures
