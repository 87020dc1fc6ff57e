-- The place after, or the first.
use Rattle.loss_sheet.proofs.Ring.{next_below, next_round}
use native.Mathlib.Omega.{arith}
use Rattle.loss_sheet.proofs.sheet.next.Goals as goal

pub returns-then-i-n : goal.returns-then-i-n
returns-then-i-n c = (next_below _ _ c.if-i-n.true, omega arith)

pub returns-else-i-n : goal.returns-else-i-n
returns-else-i-n c = (next_round _ _ c.if-i-n.false, omega arith)
