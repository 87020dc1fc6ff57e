-- Laws that this crate's proofs cite.
mod Windows
mod Accepting
mod Refusals
