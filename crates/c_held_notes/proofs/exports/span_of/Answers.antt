-- By the count.
use Rattle.c_held_notes.proofs.Numbers.{span_none, span_some}
use Rattle.c_held_notes.proofs.exports.span_of.Goals as goal

pub returns-then-count-eq0 : goal.returns-then-count-eq0
returns-then-count-eq0 c = span_none _ c.if-count-eq0.true

pub returns : goal.returns
returns c = span_some _ c.if-count-eq0.false
