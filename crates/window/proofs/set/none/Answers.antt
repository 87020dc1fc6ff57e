-- The words are those of the number.
use mathlib.Core.Path.{refl}
use Rattle.window.specs.Set.{set_of}
use Rattle.window.proofs.set.none.Goals as goal

pub returns : goal.returns
unfolding set_of
returns c = refl
