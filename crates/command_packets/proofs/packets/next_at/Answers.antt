-- The item at the front of the bytes from `at` on is the cursor's there, its places moved by `at`; the place after a whole
-- command lies in the payload.
use native.Mathlib.Omega.{arith}
use Rattle.command_packets.proofs.Agree.{front_at, front_inside}
use Rattle.command_packets.proofs.packets.next_at.Goals as goal

pub overflow_add-result : goal.overflow_add-result
overflow_add-result c =
    let inside = front_inside c.args.payload.now c.args.at _ _ c.from.ensures c.first.ensures _ _ _ c.in-Command.is in
    record { fits = omega arith }

pub returns-in-Command : goal.returns-in-Command
returns-in-Command c = front_at _ _ _ _ c.from.ensures c.first.ensures _ c.in-Command.is

pub returns-in-Truncated : goal.returns-in-Truncated
returns-in-Truncated c = front_at _ _ _ _ c.from.ensures c.first.ensures _ c.in-Truncated.is

pub returns-in-End : goal.returns-in-End
returns-in-End c = front_at _ _ _ _ c.from.ensures c.first.ensures _ c.in-End.is
