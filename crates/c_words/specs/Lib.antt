-- The definitions that this crate's contracts and those of the crates above cite.
pub mod Limits
pub mod Entry
pub mod Settings
pub mod Payload
