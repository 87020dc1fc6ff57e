-- Laws of this crate that its proofs, and those of the crates above, cite.
mod Answers
pub mod Serving
mod Idling
mod Repeating
pub mod Places
