-- The draws and the two halves, one after the other, are the step of the definition.
use native.Mathlib.Omega.{arith}
use Rattle.link.proofs.Halving as halving
use Rattle.link.proofs.link.step.Goals as goal

pub overflow_add-result : goal.overflow_add-result
overflow_add-result c = omega (arith, c.requires.0, c.requires.1.handed, c.there-gone.ensures.1.handed)

pub overflow_add-result-2 : goal.overflow_add-result-2
overflow_add-result-2 c = omega (arith, c.requires.0, c.requires.1.losses, c.there-gone.ensures.1.losses)

pub overflow_add-result-3 : goal.overflow_add-result-3
overflow_add-result-3 c = omega (arith, c.requires.0, c.requires.1.losses, c.there-gone.ensures.1.losses, c.back-come.ensures.1)

pub returns : goal.returns
returns c =
    (halving.step_is c.args.s c.args.cfg c.args.time c.args.figure c.args.ring.now c.args.other.now _ _ c.draw-load.ensures c.draw-line.ensures c.there-gone.result _ c.there-gone.ensures.0 c.back-come.result _ c.back-come.ensures.0, record { handed = omega (arith, c.requires.1.handed, c.there-gone.ensures.1.handed); losses = omega (arith, c.requires.1.losses, c.there-gone.ensures.1.losses, c.back-come.ensures.1) })
