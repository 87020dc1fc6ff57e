-- A receiver that passes the state test has a valid window.
use Rattle.receiver.proofs.Validity.{valid_window}
use Rattle.receiver.proofs.tested.poll_running.Goals as goal

pub complete-requires : goal.complete-requires
complete-requires c = valid_window _ c.requires

pub give_up-requires : goal.give_up-requires
give_up-requires c = valid_window _ c.requires
