-- Nothing is unwritten, or the newest command has its length and takes what is left of the size.
use Rattle.sender.proofs.Validity.{valid_last}
use Rattle.sender.proofs.Queued.{room_none, room_full, room_some}
use Rattle.sender.proofs.tested.room.Goals as goal

pub returns-then-s-eq0 : goal.returns-then-s-eq0
returns-then-s-eq0 c = room_none _ _ _ c.if-s-eq0.true

pub pl-n-requires : goal.pl-n-requires
pl-n-requires c = valid_last _ _ c.requires c.if-s-eq0.false

pub returns-then-max-n : goal.returns-then-max-n
returns-then-max-n c = room_full _ _ _ c.if-s-eq0.false _ c.pl-n.ensures c.if-max-n.true

pub returns : goal.returns
returns c = room_some _ _ _ c.if-s-eq0.false _ c.pl-n.ensures
