-- The definitions that the contracts of `writing` cite.
pub mod Writing
pub mod Placing
pub mod Answers
