-- The definitions of the pretend link, and what holds of its runs.
pub mod Arriving
pub mod Link
pub mod Steps
pub mod NoneRefused
pub mod Cleared
pub mod Cases
