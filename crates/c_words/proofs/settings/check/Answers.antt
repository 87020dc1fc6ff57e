-- The settings' test looks at three of them.
use native.Mathlib.Omega.{arith}
use mathlib.Core.Path.{◌∙◌}
use Rattle.c_words.proofs.Figures.{own_test}
use Rattle.c_words.proofs.settings.check.Goals as goal

pub overflow_cast-tested : goal.overflow_cast-tested
overflow_cast-tested c = omega (arith, c.type_inv.words 7)

pub returns : goal.returns
returns c = c.check.ensures ∙ own_test _
