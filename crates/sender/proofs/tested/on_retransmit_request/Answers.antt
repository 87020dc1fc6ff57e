-- Each answer has its own test; what is queued goes by the queue's answer.
use Rattle.sender.proofs.Questions.{request_off, request_error, request_queued}
use Rattle.sender.proofs.tested.on_retransmit_request.Goals as goal

pub returns-then-written-k : goal.returns-then-written-k
returns-then-written-k c =
    request_error c.args.s c.args.cfg c.args.req c.if-cfg.true _ c.distance-k.ensures c.if-written-k.true

pub returns-then-cfg : goal.returns-then-cfg
returns-then-cfg c =
    request_queued c.args.s c.args.cfg c.args.req c.if-cfg.true _ c.distance-k.ensures c.if-written-k.false _ c.push_request-pushed.ensures _ c.outcome.ensures

pub returns : goal.returns
returns c = request_off _ _ _ c.if-cfg.false
