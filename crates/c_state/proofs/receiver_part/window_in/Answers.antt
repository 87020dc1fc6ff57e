-- Each field is a figure.
use Rattle.c_state.proofs.Receivers.{window_made}
use Rattle.c_state.proofs.receiver_part.window_in.Goals as goal

pub returns : goal.returns
returns c = window_made _ _ c.four-figures.ensures
