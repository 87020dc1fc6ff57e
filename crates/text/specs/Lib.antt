-- The definitions that this crate's contracts cite.
pub mod Counts
pub mod Lines
