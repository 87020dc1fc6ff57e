use Rattle.std.proofs.Common.{◌+◌, refl, ◌∙◌}
use Rattle.uplink.proofs.Rows.{granted_step, left_step, granted_end, left_end}
use Rattle.uplink.proofs.grants.serve.Goals as goal

pub loop-i-preserved : goal.loop-i-preserved
loop-i-preserved c = record {
  grants = granted_step c.args.share c.args.row.now c.loop-i.i c.loop-i-test.true c.loop-i.left _ _ _ refl c.min-first.ensures c.min-more.ensures c.loop-i.grants c.args.at ∙ c.loop-i.invariant.grants;
  left = left_step c.args.share c.args.row.now c.loop-i.i c.loop-i-test.true c.loop-i.left _ _ _ refl c.min-first.ensures c.min-more.ensures ∙ c.loop-i.invariant.left;
}

pub returns : goal.returns
returns c =
    cc (granted_end c.args.share c.args.row.now c.loop-i.i c.loop-i-test.false c.loop-i.left (c.args.at + c.loop-i.i) c.loop-i.grants, left_end c.args.share c.args.row.now c.loop-i.i c.loop-i-test.false c.loop-i.left, c.loop-i.invariant.grants, c.loop-i.invariant.left)
