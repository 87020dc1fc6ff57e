-- With room for its answer, or without.
use native.Mathlib.Omega.{arith}
use Rattle.c_hearing.proofs.Turns.{cut_full, cut_answered}
use Rattle.c_hearing.proofs.walk.cut.Goals as goal

pub returns-then-heard-count : goal.returns-then-heard-count
returns-then-heard-count c = cut_full _ _ _ _ c.if-heard-count.true

pub put-requires : goal.put-requires
put-requires c = omega arith

pub overflow_add-result : goal.overflow_add-result
overflow_add-result c = omega arith

pub returns : goal.returns
returns c = cut_answered _ _ _ _ (omega arith) _ c.csd.ensures _ c.read-read.ensures _ c.of_number.ensures _ c.put.ensures
