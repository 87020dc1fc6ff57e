-- The window takes the number and stays valid.
use Rattle.receiver.proofs.Validity.{valid_window, valid_taken}
use Rattle.receiver.proofs.tested.heard_behind.Goals as goal

pub accept_behind-taken-requires : goal.accept_behind-taken-requires
accept_behind-taken-requires c = (valid_window _ c.requires.0, c.requires.1)

pub settled-requires : goal.settled-requires
settled-requires c = valid_taken _ (valid_window _ c.requires.0) _ _ c.accept_behind-taken.ensures
