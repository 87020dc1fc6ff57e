-- By cases.
use Rattle.link.proofs.Resting.{timer_off, timer_until}
use Rattle.link.proofs.quiet.timer_rests.Goals as goal

pub returns-in-None : goal.returns-in-None
returns-in-None c = timer_off _ _ c.in-None.is

pub returns-in-Some : goal.returns-in-Some
returns-in-Some c = timer_until _ _ _ c.in-Some.is
