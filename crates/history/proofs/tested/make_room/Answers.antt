use Rattle.std.proofs.Common.{arith}
use Rattle.history.proofs.Room.{pop_less, room_turn, room_made, room_all}
use Rattle.history.proofs.tested.make_room.Goals as goal

pub loop-g-smaller : goal.loop-g-smaller
loop-g-smaller c = pop_less _ _ _ _ c.loop-g-test.true c.pop_oldest-g.ensures

pub loop-g-preserved : goal.loop-g-preserved
loop-g-preserved c =
    let t = room_turn _ _ _ _ c.loop-g.invariant.0 c.loop-g-test.true _ _ c.pop_oldest-g.ensures c.if-g-need.true c.loop-g.invariant.3 in
    (t.0, t.1, omega (arith, t.2, t.3), t.4)

pub returns-else-g-need : goal.returns-else-g-need
returns-else-g-need c = room_made _ _ _ _ c.loop-g.invariant.0 _ c.if-g-need.false c.loop-g.invariant.3

pub returns-after-loop-g : goal.returns-after-loop-g
returns-after-loop-g c =
    room_all _ _ _ _ c.loop-g.invariant.0 _ c.loop-g.invariant.1 c.loop-g-test.false c.loop-g.invariant.2 c.loop-g.invariant.3
