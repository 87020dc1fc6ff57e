-- Each field is a figure.
use Rattle.c_state.proofs.Senders.{history_made}
use Rattle.c_state.proofs.sender_part.history_in.Goals as goal

pub returns : goal.returns
returns c = history_made c.args.words.now _ _ c.four-ring.ensures c.four-newest.ensures
