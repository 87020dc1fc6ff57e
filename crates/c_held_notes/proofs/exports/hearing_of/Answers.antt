-- Refused, or by class and loss.
use Rattle.c_held_notes.proofs.Numbers.{hearing_done, hearing_refused_lem}
use Rattle.c_held_notes.proofs.exports.hearing_of.Goals as goal

pub returns-then-refusal-eq0 : goal.returns-then-refusal-eq0
returns-then-refusal-eq0 c = hearing_done _ _ _ c.if-refusal-eq0.true _ _ c.class_of-is.ensures c.span_of-span.ensures

pub returns : goal.returns
returns c = hearing_refused_lem _ _ _ c.if-refusal-eq0.false
