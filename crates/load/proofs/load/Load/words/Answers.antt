-- The upper four bits are 8 and more where the top one is 1.
use Rattle.std.proofs.Common.{ℕ, replicate, ap, ◌∙◌, arith}
use Rattle.load.specs.Load.{word}
use Rattle.load.proofs.Words.{idle, sending}
use Rattle.load.proofs.load.Load.words.Goals as goal
use Rattle.load.proofs.load.Load.words.Goals.{then-top-lt8, else-top-lt8}

pub returns : goal.returns
returns c = ap (λ (n : ℕ). record { words = replicate 8 word; count = n }) (elim c.if-top-lt8.branch [
  | then-top-lt8 w ↦ w.count-is ∙ idle _ (omega arith)
  | else-top-lt8 w ↦ w.count-is ∙ sending _ (omega arith) (omega arith)
])
