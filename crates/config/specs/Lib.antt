-- The definitions that every layer shares.
pub mod inner
pub mod Entry
pub mod Range
pub mod Refusals
pub mod Sequence
pub mod Settings
pub mod Time
