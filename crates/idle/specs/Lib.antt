-- The definitions that the contracts of `idle` cite.
pub mod Schedule
