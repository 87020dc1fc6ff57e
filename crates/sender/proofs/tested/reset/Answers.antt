-- The sizes of a state that has passed the test are allowed.
use Rattle.sender.proofs.Validity.{valid_good, valid_fit}
use Rattle.sender.proofs.tested.reset.Goals as goal

pub start-requires : goal.start-requires
start-requires c =
    let g = valid_good _ _ c.requires in
    let f = valid_fit _ _ c.requires in
    (g.least, g.most, g.ring, f.least, f.most)
