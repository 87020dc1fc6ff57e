-- Words and numbers.
mod Words
mod Ends
mod Operations
-- What the code has at hand, and what it comes to.
pub mod Spans
pub mod Losses
mod Moves
mod Hits
mod Arrivals
mod Answers
-- For the layers above: the state test and what keeps it, the positions of a set and of a window, and what each operation leaves of them.
pub mod Validity
pub mod Preserved
pub mod Digits
pub mod SpanEnds
pub mod Positions
pub mod Classes
pub mod AfterNew
pub mod AfterMark
pub mod Accepts
pub mod InOrder
-- Figures of paper 01.
mod Figures
