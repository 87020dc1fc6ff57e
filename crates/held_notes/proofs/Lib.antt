-- Why the calls answer as they do, and why the theorems on held notes hold.
pub mod Moments
mod Bits
mod Sets
mod Notes
pub mod Words
mod Walks
mod Lists
mod Calls
mod Exactly
mod Examples
mod Covered
