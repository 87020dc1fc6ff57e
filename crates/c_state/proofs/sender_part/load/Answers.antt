-- Part by part.
use Rattle.c_state.proofs.Senders.{sender_made}
use Rattle.c_state.proofs.sender_part.load.Goals as goal

pub history_in-requires : goal.history_in-requires
history_in-requires c = c.requires

pub queue_in-requires : goal.queue_in-requires
queue_in-requires c = c.requires

pub returns : goal.returns
returns c =
    sender_made _ _ _ _ _ _ _
    c.four-newest.ensures
    c.four-small.ensures
    c.two-top.ensures
    c.history_in.ensures
    c.queue_in.ensures
    c.idle_in.ensures
