-- Each figure is taken out of where it was put.
use Rattle.c_state.proofs.Streams.{receiver_loaded, sender_loaded, stream_loaded}
use Rattle.c_state.proofs.theorems.loads_back.Goals as goal

pub returns : goal.returns
returns c = record { receiver = λ ws r l h. receiver_loaded ws l r h; sender = λ ws s l h. sender_loaded ws l s h; stream = stream_loaded }
