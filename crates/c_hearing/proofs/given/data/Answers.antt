-- The call is made on the words.
use native.Mathlib.Omega.{arith}
use Rattle.c_state.specs.Theorems.{Wide}
use Rattle.c_state.proofs.Ends.{both_receiver}
use Rattle.c_hearing.proofs.Ends.{data_given_lem}
use Rattle.c_hearing.proofs.given.data.Goals as goal
use Rattle.c_hearing.proofs.given.data.Goals.{After-slice_known-1}

wide : (c : After-slice_known-1) → Wide c.args.s.now
wide c = λ k. omega (arith, c.type_inv.s k)

pub hear-requires : goal.hear-requires
hear-requires c = (both_receiver _ c.requires.0, c.requires.1)

pub returns : goal.returns
returns c = data_given_lem _ (wide (goal.at.returns c).After-slice_known-1) c.requires.0 _ _ _ (omega arith) _ _ c.hear.ensures _ c.of_hearing.ensures _ c.of_delivery.ensures
