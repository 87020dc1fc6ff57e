-- The definitions that the contracts of `receiver` cite.
pub mod Receiver
pub mod Answers
pub mod Messages
