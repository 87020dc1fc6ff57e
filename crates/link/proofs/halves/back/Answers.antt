-- A chamber that rests polls for nothing and sends nothing, and its step is as if it had.
use mathlib.Core.Path.{sym, ◌∙◌}
use native.Mathlib.Omega.{arith}
use Rattle.link.proofs.Resting.{back_rests}
use Rattle.link.proofs.halves.back.Goals as goal

pub returns-then-chamber_rests : goal.returns-then-chamber_rests
returns-then-chamber_rests c = (back_rests _ _ _ _ _ _ (sym c.chamber_rests.ensures ∙ c.if-chamber_rests.true), omega arith)

pub returns : goal.returns
returns c = c.replied.ensures
