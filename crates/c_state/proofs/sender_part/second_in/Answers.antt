-- By its figures.
use Rattle.c_state.proofs.Requests.{second_made}
use Rattle.c_state.proofs.sender_part.second_in.Goals as goal

pub returns : goal.returns
returns c = second_made _ _ c.four-both.ensures
