-- The sender over whole lists of calls.
pub mod Book
pub mod Writes
pub mod Calls
pub mod Answers
pub mod Idle
pub mod Promise
pub mod Added
pub mod Schedule
pub mod Opened
pub mod Requests
pub mod Past
pub mod Counted
