-- With room for its answer, or without.
use Prim.Native.Nat.{◌+◌, ◌<◌}
use native.Mathlib.Omega.{arith}
use Rattle.c_hearing.proofs.Turns.{whole_full, whole_answered}
use Rattle.c_hearing.proofs.walk.whole.Goals as goal
use Rattle.c_hearing.proofs.walk.whole.Goals.{Else-heard-count}

-- there is room for one more
few : (c : Else-heard-count) → c.args.count + 1 < 18446744073709551616
few c = omega arith

pub returns-then-heard-count : goal.returns-then-heard-count
returns-then-heard-count c = (whole_full _ _ _ _ _ _ _ _ _ _ c.if-heard-count.true, c.requires.0)

pub give-answer-requires : goal.give-answer-requires
give-answer-requires c = c.requires

pub put-requires : goal.put-requires
put-requires c = omega arith

pub overflow_add-result : goal.overflow_add-result
overflow_add-result c = omega (arith, few (goal.at.overflow_add-result c).Else-heard-count)

pub returns : goal.returns
returns c = (whole_answered _ _ _ _ _ _ _ _ _ _ (omega arith) _ c.parse-command.ensures _ _ c.give-answer.ensures.0 _ c.of_command.ensures _ c.put.ensures, c.give-answer.ensures.1)
