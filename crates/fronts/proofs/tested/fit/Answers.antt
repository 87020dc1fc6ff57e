use mathlib.Core.Path.{refl}
use native.Mathlib.Omega.{arith}
use borrow.Author.Rules.{rules}
use Rattle.fronts.proofs.Fronts.{turn_fits, turn_whole, above_turn, above_found, above_none, four_enough}
use Rattle.fronts.proofs.tested.fit.Goals as goal

pub returns-then-max-ge-LONGEST : goal.returns-then-max-ge-LONGEST
returns-then-max-ge-LONGEST c = four_enough _ _ c.if-max-ge-LONGEST.true c.requires

pub loop-at-init : goal.loop-at-init
loop-at-init c = (omega arith, search rules, refl)

pub returns-then-max-m : goal.returns-then-max-m
returns-then-max-m c =
    above_found _ _ c.loop-at-test.true c.loop-at.invariant.1 _ c.message_words-m.ensures.0 _ _ c.loop-at.invariant.2 c.if-max-m.true

pub overflow_add-at : goal.overflow_add-at
overflow_add-at c =
    omega (arith, turn_fits _ _ c.loop-at-test.true c.loop-at.invariant.1 _ c.message_words-m.ensures.0)

pub loop-at-preserved : goal.loop-at-preserved
loop-at-preserved c =
    (omega (arith, turn_fits _ _ c.loop-at-test.true c.loop-at.invariant.1 _ c.message_words-m.ensures.0), turn_whole _ _ c.loop-at-test.true c.loop-at.invariant.1 _ c.message_words-m.ensures.0, above_turn _ _ c.loop-at-test.true c.loop-at.invariant.1 _ c.message_words-m.ensures.0 _ _ c.loop-at.invariant.2 c.if-max-m.false)

pub returns : goal.returns
returns c = above_none _ _ _ _ c.loop-at-test.false c.loop-at.invariant.2
