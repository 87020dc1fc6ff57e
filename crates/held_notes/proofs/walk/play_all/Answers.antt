use Prim.Native.Nat.{◌+◌, ◌≤◌}
use native.Mathlib.Omega.{arith}
use lib.ListN.{length}
use Rattle.packet.specs.Bytes.{words_of}
use Rattle.command.specs.inner.Messages.{step_fits}
use Rattle.held_notes.proofs.Walks.{words_fewer, some, all_played, one_played}
use Rattle.held_notes.proofs.walk.play_all.Goals as goal
use Rattle.held_notes.proofs.walk.play_all.Goals.{After-play-next}

-- the message lies in the words
fits : (c : After-play-next) → c.loop-after.at + c.message_in-n.result ≤ length (words_of c.args.body.now)
fits c = step_fits _ _ _ c.message_in-n.ensures c.loop-after.invariant.0

pub returns-then-n-eq0 : goal.returns-then-n-eq0
returns-then-n-eq0 c =
    all_played _ _ _ _ _ c.message_in-n.ensures c.if-n-eq0.true _ _ c.loop-after.invariant.1

pub overflow_add-at : goal.overflow_add-at
overflow_add-at c = omega (arith, fits (goal.at.overflow_add-at c).After-play-next, words_fewer c.args.body.now)

pub loop-after-smaller : goal.loop-after-smaller
loop-after-smaller c = omega (arith, fits (goal.at.loop-after-smaller c).After-play-next, some _ c.if-n-eq0.false)

pub loop-after-preserved : goal.loop-after-preserved
loop-after-preserved c =
    (fits (goal.at.loop-after-preserved c).After-play-next, one_played _ _ _ _ _ c.loop-after.invariant.0 c.message_in-n.ensures (some _ c.if-n-eq0.false) _ c.word_at.ensures _ _ _ c.play-next.ensures c.loop-after.invariant.1)
