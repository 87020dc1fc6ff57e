use mathlib.Core.Path.{◌≡◌, refl, sym, ◌∙◌}
use Prim.Native.Nat.{◌+◌, ◌-◌, ◌/◌, ◌<◌}
use lib.ListN.{length}
use native.Mathlib.Nat.{sub-zero}
use native.Mathlib.Omega.{arith}
use Rattle.c_hearing.proofs.Turns.{hear_ends, hear_on, hear_done}
use Rattle.c_hearing.proofs.walk.hear.Goals as goal

pub loop-init : goal.loop-init
loop-init c = (c.requires.0, c.requires.1, rw sub-zero refl, refl, refl, omega arith)

pub hear_at-done-requires : goal.hear_at-done-requires
hear_at-done-requires c = (c.loop.invariant.0, c.loop.invariant.1)

pub returns-then-done : goal.returns-then-done
returns-then-done c =
    let left : 0 < length c.args.payload.now / 4 - c.loop.counter = omega arith in
    hear_ends _ _ _ _ _ _ _ _ _ _ _ c.hear_at-done.ensures.0 _ left c.if-done.true ∙ c.loop.invariant.2

pub loop-preserved : goal.loop-preserved
loop-preserved c =
    let left : 0 < length c.args.payload.now / 4 - c.loop.counter = omega arith in
    let next : length c.args.payload.now / 4 - (c.loop.counter + 1) ≡ length c.args.payload.now / 4 - c.loop.counter - 1 = omega arith in
    (c.hear_at-done.ensures.1, c.loop.invariant.1, rw next (sym (hear_on _ _ _ _ _ _ _ _ _ _ _ c.hear_at-done.ensures.0 _ left c.if-done.false) ∙ c.loop.invariant.2), c.s-1.given ∙ c.loop.invariant.3, c.heard-1.given ∙ c.loop.invariant.4, omega arith)

pub shape_of-s : goal.shape_of-s
shape_of-s c = c.loop.invariant.3

pub shape_of-heard : goal.shape_of-heard
shape_of-heard c = c.loop.invariant.4

pub returns : goal.returns
returns c = hear_done _ _ _ _ _ _ _ _ _ (omega arith) ∙ c.loop.invariant.2
