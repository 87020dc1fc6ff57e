-- A console that rests sends nothing, and its step is as if it had.
use mathlib.Core.Path.{sym, ◌∙◌}
use native.Mathlib.Omega.{arith}
use Rattle.link.proofs.Resting.{there_rests}
use Rattle.link.proofs.halves.there.Goals as goal

pub returns-then-console_rests : goal.returns-then-console_rests
returns-then-console_rests c =
    (there_rests c.args.console c.args.chamber c.args.cfg c.args.time _ _ _ _ _ _ (sym c.console_rests.ensures ∙ c.if-console_rests.true), record { handed = omega arith; losses = omega arith })

pub returns : goal.returns
returns c = c.spoken.ensures
