-- Laws that this crate's proofs cite.
mod Answers
mod Refusals
