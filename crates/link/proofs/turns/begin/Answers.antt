-- A fresh payload, or one with the error that waits written into it.
use Rattle.link.proofs.Turning as turning
use Rattle.link.proofs.turns.begin.Goals as goal

pub returns-in-None : goal.returns-in-None
returns-in-None c = turning.begin_none _ _ c.requires c.in-None.is

pub returns-in-Some : goal.returns-in-Some
returns-in-Some c = turning.begin_error _ _ _ _ _ c.requires c.in-Some.is c.write-wrote.ensures
