-- The stream's answer is counted as one request; an error in it waits.
use Rattle.link_tally.proofs.Tallies as tallies
use Rattle.link_tally.proofs.arriving.request.Goals as goal

pub returns : goal.returns
returns c = tallies.request_answered _ _ 0 _ _ _ c.on_retransmit_request-asked.ensures _ c.error_after.ensures
