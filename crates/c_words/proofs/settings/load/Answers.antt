-- Each word fits.
use native.Mathlib.Omega.{arith}
use Rattle.c_words.proofs.settings.load.Goals as goal

pub overflow_cast-result-4 : goal.overflow_cast-result-4
overflow_cast-result-4 c = omega (arith, c.type_inv.words 7)
