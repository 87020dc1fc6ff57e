-- Three words together, and one.
use Rattle.c_words.proofs.Figures.{too_wide, last_figure}
use native.Mathlib.Omega.{arith}
use Rattle.c_words.proofs.settings.narrow.Goals as goal

pub returns-then-words-gt255 : goal.returns-then-words-gt255
returns-then-words-gt255 c = too_wide _ c.if-words-gt255.true

pub returns : goal.returns
returns c = last_figure _ (omega arith)
