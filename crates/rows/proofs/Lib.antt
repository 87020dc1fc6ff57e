-- Laws of this crate that its proofs, and those of the crates above, cite.
pub mod Packets
pub mod Filling
pub mod Choice
