-- The grants of a step, and what is promised of them.
pub mod Grants
pub mod Examples
pub mod Promise
