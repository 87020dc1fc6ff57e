-- A flag that is not set has no figures.
use Rattle.c_state.proofs.Streams.{receiver_taken, sender_taken, stream_taken}
use Rattle.c_state.proofs.theorems.stored_fits.Goals as goal

pub returns : goal.returns
returns c = record { receiver = λ ws r l h. receiver_taken ws l r h; sender = λ ws s l h. sender_taken ws l s h; stream = stream_taken }
