-- The definitions that this crate's contracts cite.
pub mod Pack
pub mod Receiver
pub mod Sender
pub mod Stream
pub mod Receiving
pub mod Theorems
