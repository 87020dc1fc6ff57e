-- A number that left keeps its request; else the request begins n numbers later and reaches as far.
use native.Mathlib.Omega.{arith}
use Rattle.sender.specs.Requests.{with_queue}
use Rattle.writing.proofs.Serving.{rest_error, rest_left, rest_fits}
use Rattle.writing.proofs.tested.rest.Goals as goal

pub returns-then-written-k : goal.returns-then-written-k
returns-then-written-k c =
    rest_error (with_queue c.args.s c.args.queue) c.args.req _ c.distance-k.ensures c.if-written-k.true _

pub overflow_cast-n : goal.overflow_cast-n
overflow_cast-n c =
    omega (arith, rest_fits (with_queue c.args.s c.args.queue) c.args.req _ c.distance-k.ensures c.if-written-k.false _ c.reach-left.ensures _ c.requires.3 c.requires.4)

pub overflow_sub-left : goal.overflow_sub-left
overflow_sub-left c =
    (rest_fits (with_queue c.args.s c.args.queue) c.args.req _ c.distance-k.ensures c.if-written-k.false _ c.reach-left.ensures _ c.requires.3 c.requires.4).0

pub overflow_cast-left : goal.overflow_cast-left
overflow_cast-left c =
    omega (arith, rest_fits (with_queue c.args.s c.args.queue) c.args.req _ c.distance-k.ensures c.if-written-k.false _ c.reach-left.ensures _ c.requires.3 c.requires.4)

pub returns : goal.returns
returns c =
    rest_left (with_queue c.args.s c.args.queue) c.args.req _ c.distance-k.ensures c.if-written-k.false _ c.reach-left.ensures _ _ _ c.requires.1 c.add.ensures c.set_front.ensures
