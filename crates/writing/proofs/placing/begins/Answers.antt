-- Nothing waits, little is held, nothing is written, or the oldest request's number decides.
use mathlib.Core.Path.{ap, ◌∙◌}
use native.Mathlib.Omega.{arith}
use Rattle.sender.specs.Requests.{index_of}
use Rattle.writing.proofs.Places.{begins_none, begins_short, begins_new, begins_far}
use Rattle.writing.proofs.placing.begins.Goals as goal

pub returns-then-queue-eq0 : goal.returns-then-queue-eq0
returns-then-queue-eq0 c = begins_none c.args.s _ c.if-queue-eq0.true

pub returns-then-history-lt-WORTH : goal.returns-then-history-lt-WORTH
returns-then-history-lt-WORTH c = begins_short c.args.s _ c.if-queue-eq0.false c.if-history-lt-WORTH.true

pub returns-then-history-s : goal.returns-then-history-s
returns-then-history-s c = begins_new c.args.s _ c.if-queue-eq0.false c.if-history-lt-WORTH.false c.if-history-s.true

pub asked-requires : goal.asked-requires
asked-requires c = c.requires

pub returns-then-written-k : goal.returns-then-written-k
returns-then-written-k c =
    begins_far c.args.s _ c.if-queue-eq0.false c.if-history-lt-WORTH.false _ (c.distance-k.ensures ∙ ap (index_of c.args.s) c.asked.ensures) _ (omega (arith, c.if-written-k.true))

pub returns-then-far-back : goal.returns-then-far-back
returns-then-far-back c =
    begins_far c.args.s _ c.if-queue-eq0.false c.if-history-lt-WORTH.false _ (c.distance-k.ensures ∙ ap (index_of c.args.s) c.asked.ensures) _ (omega (arith, c.if-far-back.true))

pub returns : goal.returns
returns c =
    begins_far c.args.s _ c.if-queue-eq0.false c.if-history-lt-WORTH.false _ (c.distance-k.ensures ∙ ap (index_of c.args.s) c.asked.ensures) _ (omega (arith, c.if-far-back.false))
