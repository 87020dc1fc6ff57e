-- The window is valid, and stays valid when it marks the request's range.
use Rattle.receiver.proofs.Validity.{valid_window, valid_marked}
use Rattle.receiver.proofs.tested.error_to.Goals as goal

pub mark_range-marked-requires : goal.mark_range-marked-requires
mark_range-marked-requires c = valid_window _ c.requires

pub marked_by-requires : goal.marked_by-requires
marked_by-requires c =
    valid_marked _ (valid_window _ c.requires) _ _ c.mark_range-marked.ensures
