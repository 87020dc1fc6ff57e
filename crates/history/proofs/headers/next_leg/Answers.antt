-- A leg of one of the two kinds; `any_leg` is asked for fewer entries.
use Rattle.std.proofs.Common.{arith}
use Rattle.history.proofs.Past.{ran_more}
use Rattle.history.proofs.headers.next_leg.Goals as goal

pub returns-else-guess : goal.returns-else-guess
returns-else-guess c = λ p. ran_more _ _ _ _ p _ _ (omega arith) (c.any_leg.ensures p)
