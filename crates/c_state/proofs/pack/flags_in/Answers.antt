-- Each flag by its digit.
use mathlib.Core.Path.{refl}
use Rattle.c_state.specs.Pack.{flags_in}
use Rattle.c_state.proofs.pack.flags_in.Goals as goal

pub returns : goal.returns
unfolding flags_in
returns c = refl
