-- Laws of this crate that its proofs, and those of the crates above, cite.
pub mod Fronts
