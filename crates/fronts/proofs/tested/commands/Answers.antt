use Rattle.fronts.proofs.Fronts.{count_end, whole_at, front_at}
use native.Mathlib.Omega.{arith}
use Rattle.fronts.proofs.Fronts.{command_fits, command_rest, count_turn}
use Rattle.fronts.proofs.tested.commands.Goals as goal

pub loop-at-init : goal.loop-at-init
loop-at-init c =
    (omega arith, omega arith, record { whole = c.requires.0; small = c.requires.1 }, omega arith)

pub front_words-at-requires : goal.front_words-at-requires
front_words-at-requires c = whole_at c.args.words.now c.loop-at.at c.loop-at.invariant.2.whole

pub overflow_add-at : goal.overflow_add-at
overflow_add-at c =
    omega (arith, command_fits _ _ _ _ c.loop-at-test.true c.loop-at.invariant.2 (front_at _ c.args.words.now c.loop-at.at _ c.front_words-at.ensures.0))

pub loop-at-smaller : goal.loop-at-smaller
loop-at-smaller c =
    omega (arith, command_fits _ _ _ _ c.loop-at-test.true c.loop-at.invariant.2 (front_at _ c.args.words.now c.loop-at.at _ c.front_words-at.ensures.0))

pub loop-at-preserved : goal.loop-at-preserved
loop-at-preserved c =
    let e = front_at _ c.args.words.now c.loop-at.at _ c.front_words-at.ensures.0 in
    let f = command_fits _ _ _ _ c.loop-at-test.true c.loop-at.invariant.2 e in
    (omega (arith, f), omega (arith, f), command_rest _ _ _ _ c.loop-at-test.true c.loop-at.invariant.2 e, count_turn _ _ _ _ _ _ c.loop-at-test.true c.loop-at.invariant.2 e c.loop-at.invariant.3)

pub returns : goal.returns
returns c = (count_end _ _ _ _ _ c.loop-at-test.false c.loop-at.invariant.3, omega arith)
