-- Laws that this crate's proofs cite.
mod Ends
mod Turns
mod Opened
mod Refusals
mod Example
mod Splitting
