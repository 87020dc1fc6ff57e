-- All positions are processed, and stay so.
use Prim.Native.Nat.{◌^◌, ◌<◌}
use native.Mathlib.Omega.{arith}
use Rattle.window.proofs.InOrder.{accept_in_order}
use Rattle.window.proofs.arrival.accept_next.Goals as goal
use Rattle.window.proofs.arrival.accept_next.Goals.{Start}

bound : (c : Start) → c.args.w.bits.low < 2 ^ 64
bound c = omega arith

pub returns : goal.returns
returns c =
    accept_in_order _ c.requires.0 _ c.requires.1 (bound (goal.at.returns c).Start)
