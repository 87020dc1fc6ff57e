-- Laws of this crate that its proofs, and those of the crates above, cite.
pub mod Splice
pub mod Stored
pub mod Blocks
