use Rattle.std.proofs.Common.{◌≡◌, ℕ, refl, ◌∙◌, ap₂, arith}
use Rattle.load.specs.Load.{next, digits_of}
use Rattle.load.proofs.Maps.{mapped, round, ended}
use Rattle.load.proofs.Digits.{digits_half, digits_none, few}
use Rattle.load.proofs.load.Load.jump.Goals as goal

pub loop-left-init : goal.loop-left-init
unfolding mapped next
loop-left-init c = (refl, omega arith, few _ (omega arith))

pub loop-left-preserved : goal.loop-left-preserved
unfolding mapped
loop-left-preserved c =
    let h = digits_half c.loop-left.left c.loop-left-test.true in
    (rw (c.mapped-b.ensures, c.if_odd-x.ensures) (round c.loop-left.a c.loop-left.b c.loop-left.x c.loop-left.left ∙ c.loop-left.invariant.0), omega (arith, h, c.loop-left.invariant.1), c.loop-left.invariant.2)

pub returns : goal.returns
returns c =
    let z : c.loop-left.left ≡ 0 = omega arith in
    let e : c.loop-left.rounds ≡ digits_of c.args.n = omega (arith, digits_none c.loop-left.left z, c.loop-left.invariant.1) in
    ap₂ (λ (x r : ℕ). record { load = record { last = x }; rounds = r }) (ended (mapped c.loop-left.a c.loop-left.b) c.loop-left.x c.loop-left.left z ∙ c.loop-left.invariant.0) e
