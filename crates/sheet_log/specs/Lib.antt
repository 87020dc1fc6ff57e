-- What holds over lists of blocks, and of blocks stored.
pub mod Afresh
pub mod Calls
pub mod Restores
