-- A receiver that passes the state test has a valid window.
use Rattle.receiver.proofs.Validity.{valid_window}
use Rattle.receiver.proofs.tested.on_retransmit_nak.Goals as goal

pub give_up-requires : goal.give_up-requires
give_up-requires c = valid_window _ c.requires
