-- The test is the definition's, and the entries are those from the request's number on.
use mathlib.Core.Path.{ap, ◌∙◌}
use native.Mathlib.Omega.{arith}
use Rattle.writing.proofs.Serving.{answer_error, answer_entries, answer_standing}
use Rattle.sender.proofs.Validity.{valid_good, valid_unsent}
use Rattle.rows.specs.Rows.{row_of}
use Rattle.writing.proofs.tested.answer.Goals as goal

pub overflow_sub-written : goal.overflow_sub-written
overflow_sub-written c = valid_unsent _ _ c.requires.0

pub returns-then-written-k : goal.returns-then-written-k
returns-then-written-k c =
    ap (row_of _ _) (answer_error c.args.s c.args.req _ c.distance-k.ensures c.if-written-k.true c.args.ring.now) ∙ c.write_error.ensures

pub index_of-at-requires : goal.index_of-at-requires
index_of-at-requires c = (valid_good _ _ c.requires.0, omega (arith, c.if-written-k.false), c.requires.2)

pub write_entries-requires : goal.write_entries-requires
write_entries-requires c =
    (c.requires.1, answer_standing c.args.s c.args.req _ c.distance-k.ensures c.if-written-k.false _ c.reach.ensures _ _ c.requires.0 c.index_of-at.ensures.0)

pub returns : goal.returns
returns c =
    ap (row_of _ _) (answer_entries c.args.s c.args.req _ c.distance-k.ensures c.if-written-k.false _ c.reach.ensures _ _ c.index_of-at.ensures.0) ∙ c.write_entries.ensures
