-- Laws that this crate's proofs cite.
pub mod Counts
pub mod Ring
pub mod States
pub mod Runs
