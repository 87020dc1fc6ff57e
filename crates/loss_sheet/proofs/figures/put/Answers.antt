-- Four words one after the other are one run.
use Rattle.loss_sheet.proofs.Counts.{four_words}
use native.Mathlib.Omega.{arith}
use Rattle.loss_sheet.proofs.figures.put.Goals as goal

pub returns : goal.returns
returns c = four_words _ _ _ _ _ _ c.args.f (omega arith) c.put_word.ensures c.put_word-2.ensures c.put_word-3.ensures c.put_word-4.ensures
