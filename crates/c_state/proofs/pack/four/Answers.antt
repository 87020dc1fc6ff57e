-- Each figure by its digits.
use mathlib.Core.Path.{refl}
use Rattle.c_state.specs.Pack.{four_in}
use Rattle.c_state.proofs.pack.four.Goals as goal

pub returns : goal.returns
unfolding four_in
returns c = refl
