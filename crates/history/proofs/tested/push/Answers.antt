-- Room is made for the header and the words; they are stored behind the newest, as `ring_stored` stores them.
use Rattle.std.proofs.Common.{arith}
use Rattle.history.proofs.Room.{push_fits}
use Rattle.history.proofs.tested.push.Goals as goal

pub make_room-g-requires : goal.make_room-g-requires
make_room-g-requires c = (c.requires.0, omega arith, push_fits _ _ _ c.requires.0 c.requires.1)
