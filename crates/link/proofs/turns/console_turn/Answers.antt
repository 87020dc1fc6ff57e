-- Queue, open and write, each by its contract.
use Rattle.link.proofs.Turning as turning
use Rattle.link.proofs.turns.console_turn.Goals as goal

pub returns : goal.returns
returns c =
    turning.console_is c.args.s c.args.cfg c.args.time _ _ c.args.waiting c.queue-queued.result _ c.queue-queued.ensures c.begin-p.result _ c.begin-p.ensures _ c.write.ensures.0
