-- Beyond the window the answer is no; in it, whether the position is processed.
use Rattle.std.proofs.Common.{◌∙◌}
use Rattle.std.proofs.lemmas.Bool.{lt-leb}
use native.Mathlib.Omega.{arith}
use Rattle.window.proofs.Classes.{known_far, known_in}
use Rattle.window.proofs.tested.is_processed.Goals as goal

pub returns-else-back-w : goal.returns-else-back-w
returns-else-back-w c = lt-leb _ _ (omega arith) ∙ known_far _ _ c.distance-back.ensures (omega arith)

pub returns-then-back-w : goal.returns-then-back-w
returns-then-back-w c = c.processed_at.ensures ∙ known_in _ _ c.distance-back.ensures (omega arith)
