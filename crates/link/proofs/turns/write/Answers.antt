-- What the stream's write leaves, its payload as the first bytes of the buffer.
use mathlib.Core.Path.{refl}
use Rattle.link.proofs.Turning as turning
use Rattle.link.proofs.turns.write.Goals as goal

pub returns : goal.returns
returns c = (turning.written_turn _ _ _ _ _ _ _ _ _ c.write_data-wrote.ensures, refl)
