-- Laws that this crate's proofs cite.
mod Checks
mod Figures
