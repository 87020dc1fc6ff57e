use mathlib.Core.Path.{refl, ◌∙◌}
use native.Mathlib.Omega.{arith}
use Rattle.link_tally.proofs.Walking.{walk_end, walk_cut, walk_on, walk_far, walk_few}
use Rattle.link_tally.proofs.arriving.walk.Goals as goal

pub loop-a-init : goal.loop-a-init
loop-a-init c = (omega (arith, c.requires.1), omega (arith, c.requires.2), omega arith, c.requires.0, refl)

pub returns-in-End : goal.returns-in-End
returns-in-End c =
    (walk_end _ _ _ _ _ _ _ c.next.ensures c.in-End.is ∙ c.loop-a.invariant.4, record { handed = omega (arith, c.loop-a.invariant.0, c.loop-a.invariant.2); losses = omega (arith, c.loop-a.invariant.1, c.loop-a.invariant.2) })

pub returns-in-Truncated : goal.returns-in-Truncated
returns-in-Truncated c =
    (walk_cut _ _ _ _ _ _ _ c.next.ensures _ c.in-Truncated.is ∙ c.loop-a.invariant.4, record { handed = omega (arith, c.loop-a.invariant.0, c.loop-a.invariant.2); losses = omega (arith, c.loop-a.invariant.1, c.loop-a.invariant.2) })

pub command-a-requires : goal.command-a-requires
command-a-requires c = record { handed = omega (arith, c.loop-a.invariant.0, c.loop-a.invariant.2); losses = omega (arith, c.loop-a.invariant.1, c.loop-a.invariant.2) }

pub loop-a-smaller : goal.loop-a-smaller
loop-a-smaller c =
    let f = walk_far _ _ _ c.next.ensures _ _ _ c.in-Command.is in
    omega (arith, c.loop-a.invariant.2, c.loop-a.invariant.3, f.0, f.1)

pub loop-a-preserved : goal.loop-a-preserved
loop-a-preserved c =
    let f = walk_far _ _ _ c.next.ensures _ _ _ c.in-Command.is in
    let g = walk_few c.loop-a.a c.args.cfg c.args.time c.args.ring.now c.parse.result _ c.command-a.ensures in (
      omega (arith, c.loop-a.invariant.0, f.0, g.0),
      omega (arith, c.loop-a.invariant.1, f.0, g.1),
      omega (arith, c.loop-a.invariant.3, f.1),
      c.loop-a.invariant.3,
      walk_on _ _ _ _ _ _ _ c.next.ensures _ _ _ c.in-Command.is _ c.body.ensures _ c.parse.ensures _ c.command-a.ensures ∙ c.loop-a.invariant.4,
    )
