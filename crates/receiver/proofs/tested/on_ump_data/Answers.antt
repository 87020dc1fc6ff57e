-- A receiver that passes the state test has a valid window.
use Rattle.receiver.proofs.Validity.{valid_window}
use Rattle.receiver.proofs.tested.on_ump_data.Goals as goal

pub in_order-requires : goal.in_order-requires
in_order-requires c = valid_window _ c.requires
