-- The receive window.
pub mod Set
pub mod Window
pub mod Arrival
pub mod Marking
pub mod Answers
