-- The figures of a word, put together again, are the word.
use Rattle.c_state.proofs.Streams.{receiver_same, sender_same, stream_same}
use Rattle.c_state.proofs.theorems.stores_back.Goals as goal

pub returns : goal.returns
returns c = record { receiver = receiver_same; sender = sender_same; stream = stream_same }
