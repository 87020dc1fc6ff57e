-- The definitions that this crate's contracts cite.
pub mod EventWord
pub mod Exports
pub mod Theorems
