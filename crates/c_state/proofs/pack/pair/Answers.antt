-- The sum stays below 16 bits.
use mathlib.Core.Path.{refl}
use Rattle.c_state.specs.Pack.{pair}
use Rattle.c_state.proofs.pack.pair.Goals as goal

pub returns : goal.returns
unfolding pair
returns c = refl
