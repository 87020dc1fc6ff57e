-- Laws that this crate's proofs and those of the crates above cite.
pub mod Splice
pub mod Words
pub mod Written
pub mod Reading
pub mod RoundTrip
pub mod Outcomes
mod Figures
mod Covered
