-- The sender's write with its count raised by n; a write has at most 700 commands, so the sum fits.
use native.Mathlib.Omega.{arith}
use Rattle.stream.proofs.Counts.{written_most}
use Rattle.stream.proofs.Writing.{sent_after_lem}
use Rattle.stream.proofs.tested.write_after.Goals as goal

pub overflow_add-result : goal.overflow_add-result
overflow_add-result c =
    let few = written_most _ _ _ _ _ _ c.requires.2 c.requires.3 _ _ _ c.write-wrote.ensures _ c.in-Ok.is in
    omega (arith, c.requires.0)

pub returns-in-Err : goal.returns-in-Err
returns-in-Err c =
    sent_after_lem c.args.s c.args.cfg c.args.time c.args.p _ _ _ c.write-wrote.result _ _ c.write-wrote.ensures _ c.in-Err.is

pub returns-in-Ok : goal.returns-in-Ok
returns-in-Ok c =
    sent_after_lem c.args.s c.args.cfg c.args.time c.args.p _ _ _ c.write-wrote.result _ _ c.write-wrote.ensures _ c.in-Ok.is
