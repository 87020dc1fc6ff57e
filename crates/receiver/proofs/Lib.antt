-- Laws that this crate's proofs and those of the crates above cite.
mod Settled
pub mod Taken
pub mod Answers
pub mod Validity
pub mod Handed
mod Figures
