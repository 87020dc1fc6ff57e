-- The sender is loaded, the call is made, and the sender's words are stored.
use native.Mathlib.Omega.{arith}
use Rattle.c_state.specs.Theorems.{Wide}
use Rattle.c_state.proofs.Ends.{both_sender, both_whole}
use Rattle.c_hearing.proofs.Ends.{request_stored, request_given_lem}
use Rattle.c_hearing.proofs.given.request.Goals as goal
use Rattle.c_hearing.proofs.given.request.Goals.{After-slice_known-1}

wide : (c : After-slice_known-1) → Wide c.args.s.now
wide c = λ k. omega (arith, c.slice_known-1.given k)

pub sender_in-requires : goal.sender_in-requires
sender_in-requires c = both_sender _ c.requires

pub store_sender-requires : goal.store_sender-requires
store_sender-requires c = (both_whole _ c.requires, request_stored c.args.s.now (wide (goal.at.store_sender-requires c).After-slice_known-1) _ c.sender_in.ensures _ _ _ _ c.on_retransmit_request-done.ensures)

pub returns : goal.returns
returns c = request_given_lem c.args.s.now (wide (goal.at.returns c).After-slice_known-1) _ c.sender_in.ensures _ _ _ _ c.on_retransmit_request-done.ensures c.requires _ c.store_sender.ensures _ c.of_outcome.ensures _ c.of_outcome-2.ensures
