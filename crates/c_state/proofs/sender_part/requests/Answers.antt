-- Word by word.
use Rattle.c_state.proofs.Requests.{words_made}
use Rattle.c_state.proofs.sender_part.requests.Goals as goal

pub returns : goal.returns
returns c =
    words_made _
    c.both.ensures
    c.both-2.ensures
    c.both-3.ensures
    c.both-4.ensures
    c.both-5.ensures
    c.both-6.ensures
    c.both-7.ensures
    c.both-8.ensures
