-- Each field is a figure, and the requests are read.
use mathlib.Core.Path.{ap, ◌∙◌}
use Rattle.c_state.specs.Sender.{requests_in}
use Rattle.c_state.proofs.Parts.{rest_whole, rest_length}
use Rattle.c_state.proofs.Senders.{queue_made}
use Rattle.c_state.proofs.sender_part.queue_in.Goals as goal

pub requests_in-requires : goal.requests_in-requires
requests_in-requires c = rest_length 5 8 c.args.words.now c.requires

pub returns : goal.returns
returns c =
    queue_made c.args.words.now _ _ _ c.four-small.ensures c.two-top.ensures (c.requests_in.ensures ∙ ap requests_in (rest_whole 5 c.args.words.now))
