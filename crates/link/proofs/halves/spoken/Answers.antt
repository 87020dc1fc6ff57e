-- The console's turn, and what arrives of its bytes.
use Rattle.link.proofs.Halving as halving
use Rattle.link.proofs.halves.spoken.Goals as goal

pub carry-heard-requires : goal.carry-heard-requires
carry-heard-requires c = halving.part_short _ _ _ c.part.ensures c.buf-2-1.given

pub returns : goal.returns
returns c =
    (halving.there_is c.args.console c.args.chamber c.args.cfg c.args.time c.args.load.last c.args.line.last c.args.figure c.args.waiting c.args.ring.now c.args.other.now c.console_turn-turn.result _ _ c.console_turn-turn.ensures _ c.part.ensures _ c.carry-heard.ensures.0, c.carry-heard.ensures.1)
