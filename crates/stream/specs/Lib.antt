-- The definitions that the contracts of `stream` cite.
pub mod State
pub mod Ends
pub mod Answers
pub mod Writing
pub mod Sending
pub mod Theorems
