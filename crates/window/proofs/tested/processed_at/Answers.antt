-- At the highest, beyond the window, and in between by the bit.
use mathlib.Core.Path.{sym, ◌∙◌}
use native.Mathlib.Omega.{arith}
use Rattle.window.proofs.Positions.{processed_zero, processed_beyond, processed_in}
use Rattle.window.proofs.tested.processed_at.Goals as goal

pub returns-then-back-eq0 : goal.returns-then-back-eq0
returns-then-back-eq0 c = processed_zero _ _ c.if-back-eq0.true

pub returns-then-w-k : goal.returns-then-w-k
returns-then-w-k c = sym (processed_beyond _ _ (omega arith))

pub returns : goal.returns
returns c = c.holds.ensures ∙ sym (processed_in _ _ (omega arith) (omega arith))
