use Rattle.std.proofs.Common.{◌≡◌, ◌∙◌, ◌+◌, ◌≤◌, length, arith}
use Rattle.command.specs.Messages.{message_at, item_words}
use Rattle.command.specs.inner.Messages.{step_fits, whole_turn_lem, whole_stop, whole_end}
use Rattle.command.proofs.message.whole.Given.{Over}
use Rattle.command.proofs.message.whole.Goals as goal
use Rattle.command.proofs.message.whole.Goals.{Joined-n-same, then-n-same+else-n-eq0, else-n-same}

module _ (g : Over) (c : Joined-n-same g) where
  by_branch : c.if-n-same.same ≡ c.message-n.result
  by_branch = elim c.if-n-same.branch [ then-n-same+else-n-eq0 w ↦ omega arith | else-n-same w ↦ omega arith ]

  -- `same` after the tests: the words of the message at hand, of which there is one
  read : c.if-n-same.same ≡ item_words (message_at (g.W.Words.words c.args.words) c.loop-at.at)
  read = by_branch ∙ c.message-n.ensures

  some : 1 ≤ c.if-n-same.same
  some = elim c.if-n-same.branch [ then-n-same+else-n-eq0 w ↦ omega arith | else-n-same w ↦ omega arith ]

  fits : c.loop-at.at + c.if-n-same.same ≤ length (g.W.Words.words c.args.words)
  fits = step_fits _ _ _ read c.loop-at.invariant.0

pub loop-at-init : goal.loop-at-init
loop-at-init g c = (omega arith, omega arith, omega arith)

pub returns-then-n-eq0 : goal.returns-then-n-eq0
returns-then-n-eq0 g c =
    whole_stop _ _ _ c.message-n.ensures _ c.loop-at.invariant.1 c.if-n-eq0.true

pub overflow_add-at : goal.overflow_add-at
overflow_add-at g c = omega (arith, fits g (goal.at.overflow_add-at g c).Joined-n-same)

pub loop-at-smaller : goal.loop-at-smaller
loop-at-smaller g c =
    let j = (goal.at.loop-at-smaller g c).Joined-n-same in
    omega (arith, fits g j, some g j)

pub loop-at-preserved : goal.loop-at-preserved
loop-at-preserved g c =
    let j = (goal.at.loop-at-preserved g c).Joined-n-same in
    (fits g j, whole_turn_lem _ _ _ (read g j) _ c.loop-at.invariant.1 (some g j), some g j)

pub returns : goal.returns
returns g c = whole_end (g.W.Words.words c.args.words) _ _ (omega arith) c.loop-at.invariant.1
