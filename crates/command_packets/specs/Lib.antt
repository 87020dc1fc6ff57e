-- The definitions that the contracts of `command_packets` cite.
pub mod Held
pub mod Theorems
