-- The receiver is loaded, the call is made, and the receiver's words are stored.
use native.Mathlib.Omega.{arith}
use Rattle.c_state.specs.Theorems.{Wide}
use Rattle.c_state.proofs.Ends.{both_receiver, both_whole}
use Rattle.c_hearing.proofs.Ends.{error_stored, error_given_lem}
use Rattle.c_hearing.proofs.given.error.Goals as goal
use Rattle.c_hearing.proofs.given.error.Goals.{After-slice_known-1}

wide : (c : After-slice_known-1) → Wide c.args.s.now
wide c = λ k. omega (arith, c.slice_known-1.given k)

pub receiver_in-requires : goal.receiver_in-requires
receiver_in-requires c = both_receiver _ c.requires

pub renew_receiver-requires : goal.renew_receiver-requires
renew_receiver-requires c = (both_whole _ c.requires, error_stored c.args.s.now (wide (goal.at.renew_receiver-requires c).After-slice_known-1) _ c.receiver_in.ensures _ _ c.on_retransmit_error-done.ensures)

pub returns : goal.returns
returns c = error_given_lem c.args.s.now (wide (goal.at.returns c).After-slice_known-1) _ c.receiver_in.ensures _ _ c.on_retransmit_error-done.ensures c.requires _ c.renew_receiver.ensures _ c.of_event.ensures _ c.of_event-2.ensures
