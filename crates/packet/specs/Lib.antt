-- The definitions that the contracts of `packet` cite.
pub mod Bytes
pub mod Layout
pub mod Write
pub mod Read
pub mod Theorems
