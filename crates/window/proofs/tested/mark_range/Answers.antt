-- The hits among the missing positions join the set, and their span is the answer.
use Rattle.window.proofs.Hits.{mark_is}
use Rattle.window.proofs.tested.mark_range.Goals as goal

pub returns : goal.returns
returns c =
    mark_is _ _ c.missing_set-m.ensures c.hits-found.ensures c.either-marked.ensures c.span_of.ensures
