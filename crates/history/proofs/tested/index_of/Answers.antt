-- The headers of a tested state are as the walk wants them, so that it passes the entries from the mark on.
use Rattle.std.proofs.Common.{arith, rules}
use Rattle.history.proofs.Past.{mark_nearest, walked_never, walked_good}
use Rattle.history.proofs.Room.{good_few}
use Rattle.history.proofs.tested.index_of.Goals as goal

pub overflow_cast-mark : goal.overflow_cast-mark
overflow_cast-mark c =
    let m = mark_nearest _ _ _ _ c.requires.0 c.requires.2 _ c.nearest-mark.ensures in
    omega (arith, m.1, c.requires.1, good_few _ _ c.requires.0, c.requires.0.room, c.requires.0.most)

pub overflow_sub-k : goal.overflow_sub-k
overflow_sub-k c =
    (mark_nearest _ _ _ _ c.requires.0 c.requires.2 _ c.nearest-mark.ensures).1

pub walk-requires : goal.walk-requires
walk-requires c =
    let m = mark_nearest _ _ _ _ c.requires.0 c.requires.2 _ c.nearest-mark.ensures in
    search rules

pub unreachable-requires : goal.unreachable-requires
unreachable-requires c =
    let m = mark_nearest _ _ _ _ c.requires.0 c.requires.2 _ c.nearest-mark.ensures in
    walked_never _ _ _ c.requires.0 (omega arith) m.0 _ m.1 c.requires.1 (rw (c.add.ensures, c.in_default.is) at c.walk.ensures)

pub returns : goal.returns
returns c =
    let m = mark_nearest _ _ _ _ c.requires.0 c.requires.2 _ c.nearest-mark.ensures in
    walked_good _ _ _ c.requires.0 (omega arith) m.0 _ _ m.1 (rw (c.add.ensures, c.in-Some.is) at c.walk.ensures)
