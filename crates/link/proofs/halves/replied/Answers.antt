-- The chamber's turn, and what arrives of its bytes.
use Rattle.link.proofs.Halving as halving
use Rattle.link.proofs.halves.replied.Goals as goal

pub arrive-read-requires : goal.arrive-read-requires
arrive-read-requires c = halving.part_short _ _ _ c.part.ensures c.buf-2-1.given

pub returns : goal.returns
returns c =
    (halving.back_is c.args.console c.args.chamber c.args.cfg c.args.time _ _ c.chamber_turn-turn.result _ _ c.chamber_turn-turn.ensures.0 c.chamber_turn-turn.ensures.1 _ c.part.ensures _ c.arrive-read.ensures.0, c.chamber_turn-turn.ensures.2)
