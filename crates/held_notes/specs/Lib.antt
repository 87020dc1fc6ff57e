-- The held notes of one group, and what holds of them over whole lists of calls.
pub mod Calls
pub mod State
pub mod Answers
pub mod Theorems
