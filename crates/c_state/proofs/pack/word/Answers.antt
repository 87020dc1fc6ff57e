-- The sum stays below a word.
use mathlib.Core.Path.{refl}
use Rattle.c_state.specs.Pack.{word}
use Rattle.c_state.proofs.pack.word.Goals as goal

pub returns : goal.returns
unfolding word
returns c = refl
