-- What only proofs need.
pub mod Choices
pub mod Entries
pub mod Ranges
pub mod Tests
