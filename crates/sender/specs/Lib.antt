-- The definitions that the contracts of `sender` cite.
pub mod State
pub mod Queueing
pub mod Requests
pub mod Answers
