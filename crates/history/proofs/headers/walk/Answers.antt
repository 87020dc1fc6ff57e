use Rattle.std.proofs.Common.{arith}
use Rattle.history.proofs.Past.{walk_stops, walk_short, past_walk, walked_all}
use Rattle.history.proofs.headers.walk.Goals as goal

pub returns-in_err-out : goal.returns-in_err-out
returns-in_err-out c =
    rw c.from_residual.ensures (walk_stops _ _ _ _ _ _ _ _ _ _ _ c.loop-left.invariant.4 c.loop-left.invariant.0 (rw c.in_err-out.was at (c.next_leg.ensures c.loop-left.prev)))

pub returns-then-words-out : goal.returns-then-words-out
returns-then-words-out c =
    let r = rw c.in_ok-out.was at (c.next_leg.ensures c.loop-left.prev) in
    walk_short _ _ _ _ _ _ _ _ _ _ _ c.loop-left.invariant.4 c.loop-left.invariant.0 c.loop-left.invariant.3 _ _ _ _ _ r c.if-words-out.true

pub overflow_sub-left : goal.overflow_sub-left
overflow_sub-left c =
    (rw c.in_ok-out.was at (c.next_leg.ensures 0)).1

pub loop-left-smaller : goal.loop-left-smaller
loop-left-smaller c =
    let r = rw c.in_ok-out.was at (c.next_leg.ensures 0) in
    omega (arith, r.0, r.1)

pub loop-left-preserved : goal.loop-left-preserved
loop-left-preserved c =
    let r = rw c.in_ok-out.was at (c.next_leg.ensures c.loop-left.prev) in (
      omega (arith, r.1),
      c.slot-at.ensures.1,
      omega arith,
      omega arith,
      rw c.slot-at.ensures.0 (past_walk _ _ _ _ _ _ _ _ _ _ _ c.loop-left.invariant.4 c.loop-left.invariant.0 c.loop-left.invariant.3 _ _ _ _ _ r c.if-words-out.false),
    )

pub returns : goal.returns
returns c =
    walked_all _ _ _ _ _ _ _ _ c.loop-left-test.false c.loop-left.invariant.1 c.loop-left.invariant.3 c.loop-left.invariant.4
