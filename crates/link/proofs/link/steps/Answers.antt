use Rattle.std.proofs.Common.{refl, ◌≡◌, arith}
use Rattle.link.proofs.Running.{run_none, run_more, run_end}
use Rattle.link.proofs.link.steps.Goals as goal

pub loop-done-init : goal.loop-done-init
loop-done-init c = record { fits = c.requires.1; ring = refl; other = refl; steps = run_none _ _ _ }

pub step-s-requires : goal.step-s-requires
step-s-requires c = (omega (arith, c.requires.0, c.loop-done-test.true), c.loop-done.invariant.fits)

pub loop-done-preserved : goal.loop-done-preserved
loop-done-preserved c = record {
  fits = c.step-s.ensures.1;
  ring = omega arith;
  other = omega arith;
  steps = run_more _ _ _ _ _ _ c.loop-done.invariant.steps c.step-s.ensures.0;
}

pub returns : goal.returns
returns c =
    let all : c.loop-done.done ≡ c.args.budget = omega (arith, c.loop-done-test.false) in
    rw (← all) (run_end _ _ _ c.loop-done.s _ _ _ _ refl c.loop-done.invariant.steps)
