-- The figures are as wide as their places.
use Rattle.c_stream.proofs.EventWords.{event_back}
use native.Mathlib.Omega.{arith}
use Rattle.c_stream.proofs.event_word.packed.Goals as goal

pub returns : goal.returns
returns c = event_back _ (omega arith) (omega arith) (omega arith) (omega arith) c.requires _ _ c.pair.ensures c.word.ensures
