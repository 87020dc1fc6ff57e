-- The definitions that this crate's contracts cite.
pub mod Export
pub mod Theorems
