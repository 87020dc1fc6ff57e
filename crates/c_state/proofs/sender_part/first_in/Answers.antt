-- By its figures.
use Rattle.c_state.proofs.Requests.{first_made}
use Rattle.c_state.proofs.sender_part.first_in.Goals as goal

pub returns : goal.returns
returns c = first_made _ _ c.four-both.ensures
