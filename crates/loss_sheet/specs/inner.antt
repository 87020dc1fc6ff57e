-- What only proofs need.
pub mod Fits
