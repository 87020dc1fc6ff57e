-- Each test is one of the definition.
use Rattle.c_window.proofs.Windows.{window_short, window_large, window_last}
use native.Mathlib.Omega.{arith}
use Rattle.c_window.proofs.exports.fits.Goals as goal

pub returns-then-words-ne4 : goal.returns-then-words-ne4
returns-then-words-ne4 c = window_short _ c.if-words-ne4.true

pub returns-then-words-gt-LARGEST : goal.returns-then-words-gt-LARGEST
returns-then-words-gt-LARGEST c = window_large _ c.if-words-gt-LARGEST.true

pub returns : goal.returns
returns c = window_last _ (omega arith) (omega arith)
