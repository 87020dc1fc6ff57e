-- The sender over ring and counters follows the sender as plain lists, call by call.
pub use Rattle.sender_log.proofs.Ties.{Follows, follows_valid, start_follows}
pub use Rattle.sender_log.proofs.Requesting.{request_follows}
pub use Rattle.sender_log.proofs.Queueing.{send_follows}
pub use Rattle.sender_log.proofs.Writing.{write_follows}
