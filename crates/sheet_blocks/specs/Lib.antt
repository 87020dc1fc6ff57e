-- The definitions that the contracts cite.
pub mod Bytes
pub mod Records
pub mod Columns
