-- What only proofs need.
pub mod Room
pub mod Walk
