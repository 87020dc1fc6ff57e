-- Without the signature nothing is read; else the walk from byte 4 on is the whole.
use native.Mathlib.Omega.{arith}
use Rattle.link_tally.proofs.Walking.{arrive_unsigned, arrive_signed}
use Rattle.link_tally.proofs.arriving.arrive.Goals as goal

pub returns-in-Err : goal.returns-in-Err
returns-in-Err c = (arrive_unsigned _ _ _ _ _ _ c.command_packets.ensures _ c.in-Err.is, record { handed = omega arith; losses = omega arith })

pub returns-in-Ok : goal.returns-in-Ok
returns-in-Ok c = (arrive_signed _ _ _ _ _ _ c.command_packets.ensures _ c.in-Ok.is _ c.walk.ensures.0, c.walk.ensures.1)
