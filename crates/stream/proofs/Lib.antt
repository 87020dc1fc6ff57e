-- Laws that this crate's proofs and those of the crates above cite.
pub mod Validity
mod Answers
pub mod NotStarted
mod Taking
mod Counts
mod Writing
pub mod Calls
pub mod Both
