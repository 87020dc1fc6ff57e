-- What is counted while an end reads a payload.
mod Tallies
pub mod Walking
