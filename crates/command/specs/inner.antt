-- What only proofs need.
pub mod Lists
pub mod Messages
