-- Each figure by its digits.
use mathlib.Core.Path.{refl}
use Rattle.c_state.specs.Pack.{two_in}
use Rattle.c_state.proofs.pack.two.Goals as goal

pub returns : goal.returns
unfolding two_in
returns c = refl
