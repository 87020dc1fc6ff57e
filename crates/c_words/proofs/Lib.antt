-- Laws that this crate's proofs and those of the crates above cite.
pub mod Within
pub mod Runs
pub mod Entries
pub mod Kept
pub mod Figures
