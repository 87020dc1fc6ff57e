-- A stream over whole lists of calls.
pub mod Calls
pub mod Refusals
pub mod Ends
pub mod Answers
pub mod Promise
pub mod Count
pub mod Console
pub mod Sentence
