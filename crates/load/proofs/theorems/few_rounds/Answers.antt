-- A law of binary digits for each sentence.
use Rattle.std.proofs.Common.{arith}
use Rattle.load.proofs.Digits.{few, enough, needed}
use Rattle.load.proofs.theorems.few_rounds.Goals as goal

pub returns : goal.returns
returns c = record { few = λ s n h. let d = few n (omega arith) in omega arith; enough = enough; needed = needed }
