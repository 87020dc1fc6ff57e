-- A valid size is one that a window starts with.
use Rattle.receiver.proofs.Validity.{valid_window}
use Rattle.receiver.proofs.tested.reset.Goals as goal

pub starting_at-requires : goal.starting_at-requires
starting_at-requires c = let v = valid_window _ c.requires in (v.some, v.most)
