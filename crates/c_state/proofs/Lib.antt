-- Laws that this crate's proofs and those of the crates above cite.
pub mod Packed
pub mod Parts
mod Requests
mod Receivers
mod Senders
pub mod Streams
pub mod Ends
mod Choices
mod ReceiverSizes
mod Hearings
pub mod Waiting
mod SenderSizes
pub mod Narrow
pub mod Unchanged
pub mod ReceiverFits
pub mod SenderFits
mod Figures
