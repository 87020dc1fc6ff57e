-- A draw below the figure leaves nothing to read; else the payload arrives.
use native.Mathlib.Omega.{arith}
use Rattle.link.proofs.Turning as turning
use Rattle.link.proofs.turns.carry.Goals as goal

pub returns-then-line-figure : goal.returns-then-line-figure
returns-then-line-figure c = (turning.line_drops _ _ _ _ _ _ _ c.if-line-figure.true, record { handed = omega arith; losses = omega arith })

pub returns : goal.returns
returns c = (turning.line_carries _ _ _ _ _ _ _ c.if-line-figure.false _ c.arrive.ensures.0, c.arrive.ensures.1)
