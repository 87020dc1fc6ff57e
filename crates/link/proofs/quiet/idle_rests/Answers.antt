-- By cases.
use Rattle.link.proofs.Resting.{rests_off, rests_until}
use Rattle.link.proofs.quiet.idle_rests.Goals as goal

pub returns-in-None : goal.returns-in-None
returns-in-None c = rests_off _ _ c.in-None.is

pub returns-in-Some : goal.returns-in-Some
returns-in-Some c = rests_until _ _ _ c.in-Some.is
