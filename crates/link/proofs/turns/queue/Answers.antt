-- The load's count takes the first words of the array, and they are the words the definition queues.
use lib.Seq.{length-take-le}
use native.Mathlib.Omega.{arith}
use mathlib.Core.Path.{sym}
use Rattle.link.proofs.Turning as turning
use Rattle.link.proofs.turns.queue.Goals as goal

pub slice_bounds-words-end : goal.slice_bounds-words-end
slice_bounds-words-end c = let n = turning.words_at_most _ _ c.words-asked.ensures in omega arith

pub slice_bounds-send_ump-end : goal.slice_bounds-send_ump-end
slice_bounds-send_ump-end c = let n = turning.words_at_most _ _ c.words-asked.ensures in sym (length-take-le _ _ (omega arith))

pub returns : goal.returns
returns c = turning.queued_is _ _ _ _ _ (turning.words_are _ _ c.words-asked.ensures) _ _ c.send_ump-sent.ensures
