-- A receiver that passes the state test has a valid window.
use Rattle.receiver.proofs.Validity.{valid_window}
use Rattle.receiver.proofs.tested.write_request.Goals as goal

pub request-requires : goal.request-requires
request-requires c = valid_window _ c.requires.0
