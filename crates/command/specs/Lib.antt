-- The definitions that the contracts of `command` cite.
pub mod inner
pub mod Messages
pub mod Write
pub mod Parse
pub mod Calls
