-- Laws that this crate's proofs cite.
mod Stays
mod NotQueued
