-- What the receiver's promise and the contract sentence say of held notes.
pub mod Log
pub mod Theorems
pub mod Cases
