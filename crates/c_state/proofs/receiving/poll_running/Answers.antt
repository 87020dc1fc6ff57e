-- Before it is due nothing changes.
use Rattle.receiver.proofs.Validity.{valid_window}
use Rattle.c_state.proofs.Streams.{receiver_known}
use Rattle.c_state.proofs.Hearings.{valid_narrow, polled_early, polled_narrow, told_into_lem}
use Rattle.c_state.proofs.receiving.poll_running.Goals as goal

pub returns-then-time-t : goal.returns-then-time-t
returns-then-time-t c = polled_early _ _ c.requires.0 c.requires.1 _ _ _ c.requires.3 c.if-time-t.true

pub store_receiver-requires : goal.store_receiver-requires
store_receiver-requires c = ((receiver_known _ c.requires.0).0, polled_narrow _ _ _ _ c.poll-done.ensures (valid_narrow _ (valid_window _ c.requires.2)))

pub returns : goal.returns
returns c = told_into_lem _ _ _ _ c.poll-done.ensures c.store_receiver.ensures
