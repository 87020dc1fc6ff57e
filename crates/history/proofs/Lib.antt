-- Laws of this crate that its proofs, and those of the crates above, cite.
pub mod Slots
pub mod Runs
pub mod Walk
pub mod Room
pub mod Past
pub mod StateTest
pub mod View
pub mod Flat
pub mod Entries
pub mod Effects
pub mod States
pub mod Queues
pub mod Written
pub mod Reached
mod Turned
mod Covered
