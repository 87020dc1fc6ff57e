-- Why the contract sentence holds.
mod Lists
mod Wires
mod Messages
mod Sound
mod Packets
mod Payloads
mod Books
mod Writing
mod Tags
mod Lent
pub mod Consoles
mod Chambers
mod Performance
mod Room
mod Filled
mod Brought
mod Steady
mod AtRest
pub mod Delivery
mod InTime
pub mod Repeats
pub mod Paced
pub mod Taking
mod Refusing
mod Covered
pub mod Example
mod RepeatsExample
mod PacedExample
mod Reach
mod Performances
