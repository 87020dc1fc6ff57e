-- Laws that this crate's proofs cite, and, marked `pub`, those of the crates above.
pub mod Numbers
mod EndsOf
pub mod Settled
mod Losses
pub mod Held
mod Arrivals
mod Marks
mod SpanIs
mod Taken
pub mod Follows
mod Hearing
mod GivingUp
mod Polling
mod Refusing
mod Taking
pub mod Missing
pub mod Runs
mod RequestTimes
mod Cases
mod Covered
