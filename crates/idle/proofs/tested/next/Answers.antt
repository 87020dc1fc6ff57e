-- The tests choose as the definition does.
use Rattle.idle.proofs.Steps.{settings_growth, next_repeat, next_further, next_off}
use Rattle.idle.proofs.tested.next.Goals as goal

pub returns-then-step-repeats : goal.returns-then-step-repeats
returns-then-step-repeats c = next_repeat _ _ _ _ c.if-step-repeats.true c.later_by.ensures

pub grown-interval-requires : goal.grown-interval-requires
grown-interval-requires c = settings_growth _ c.requires.0

pub returns-then-step-repeats-2 : goal.returns-then-step-repeats-2
returns-then-step-repeats-2 c = next_further _ _ _ c.if-step-repeats.false _ _ c.if-step-repeats-2.true c.grown-interval.ensures c.later_by-then-step-repeats-2.ensures

pub returns : goal.returns
returns c = next_off c.args.cfg c.args.time c.args.i c.if-step-repeats.false c.if-step-repeats-2.false
