-- Laws that this crate's proofs and those of the crates above cite.
pub mod Messages
pub mod Written
pub mod Parsing
pub mod RoundTrip
mod Covered
