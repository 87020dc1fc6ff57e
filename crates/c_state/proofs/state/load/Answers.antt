-- End by end.
use Rattle.c_state.proofs.Streams.{both_fit, stream_made}
use Rattle.c_state.proofs.state.load.Goals as goal

pub sender_in-requires : goal.sender_in-requires
sender_in-requires c = (both_fit _ c.requires).1

pub receiver_in-requires : goal.receiver_in-requires
receiver_in-requires c = (both_fit _ c.requires).0

pub returns : goal.returns
returns c = stream_made _ _ _ c.sender_in.ensures c.receiver_in.ensures
