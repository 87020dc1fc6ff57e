-- Laws that this crate's proofs cite.
mod Writes
mod Refusals
