use Rattle.std.proofs.Common.{arith}
use Rattle.uplink.proofs.Rows.{firsts_step, firsts_end}
use Rattle.uplink.proofs.grants.rest.Goals as goal

pub overflow_sub-left : goal.overflow_sub-left
overflow_sub-left c = omega (arith, c.min-left.ensures, firsts_step c.args.share c.args.wants.now c.loop-want.want-index c.loop-want-test.true)

pub loop-want-preserved : goal.loop-want-preserved
loop-want-preserved c = omega (arith, c.min-left.ensures, firsts_step c.args.share c.args.wants.now c.loop-want.want-index c.loop-want-test.true)

pub returns : goal.returns
returns c = omega (arith, firsts_end c.args.share c.args.wants.now c.loop-want.want-index c.loop-want-test.false)
