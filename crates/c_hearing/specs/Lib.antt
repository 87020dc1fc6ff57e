-- The definitions that this crate's contracts cite.
pub mod Figures
pub mod Given
pub mod Walk
pub mod Exports
pub mod Theorems
