-- Laws that this crate's proofs cite.
mod Started
mod Places
mod EventWords
mod Stays
mod Ends
mod Emptiness
mod Refusals
