-- A timer that is stopped changes nothing.
use Rattle.c_state.proofs.Hearings.{polled_stopped}
use Rattle.c_state.proofs.receiving.poll_valid.Goals as goal

pub returns-in-None : goal.returns-in-None
returns-in-None c = polled_stopped _ _ c.requires.0 c.requires.1 _ _ c.in-None.is
