-- Laws that this crate's proofs and those of the crates above cite.
pub mod Parts
pub mod Steps
pub mod Agree
mod Covered
