-- Laws that this crate's proofs cite.
mod Maps
mod Digits
mod Words
mod Lists
mod Cases
mod Covered
