-- Laws of this crate that its proofs, and those of the crates above, cite.
pub mod Validity
pub mod Queued
mod Questions
mod Answers
pub mod Parts
pub mod Kept
mod Figures
