-- Room is made for the words, with the newest entry kept; they are stored behind it, and its header counts them.
use Rattle.std.proofs.Common.{arith}
use Rattle.history.proofs.Room.{join_fits}
use Rattle.history.proofs.tested.append_to_last.Goals as goal

pub make_room-g-requires : goal.make_room-g-requires
make_room-g-requires c =
    (c.requires.0, omega arith, join_fits _ _ _ c.requires.0 c.requires.1 c.requires.2)
