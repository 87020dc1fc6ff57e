-- Why the sender over lists of calls holds what it says.
pub mod Newest
mod Held
pub mod Packets
pub mod Ties
mod Requesting
mod Queueing
mod Serving
mod Idling
mod Writing
pub mod Follows
pub mod Runs
pub mod Rows
pub mod More
mod Idle
mod Cases
pub mod Covered
pub mod Words
pub mod Added
pub mod Counting
pub mod Opening
pub mod Opened
pub mod Past
pub mod Wanted
