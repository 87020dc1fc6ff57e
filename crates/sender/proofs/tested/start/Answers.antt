-- The history is emptied and its words are zeroed.
use Rattle.sender.proofs.Questions.{start_made}
use Rattle.sender.proofs.tested.start.Goals as goal

pub returns : goal.returns
returns c = start_made _ _ c.args.ring.now _ _ _ c.clear.ensures c.clear_requests.ensures
