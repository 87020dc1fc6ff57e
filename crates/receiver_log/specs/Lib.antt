-- The receiver over whole lists of calls.
pub mod Calls
pub mod Log
pub mod Spans
pub mod Timing
pub mod Answers
pub mod Promise
pub mod RequestTimes
