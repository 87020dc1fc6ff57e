-- What the send history and the request queue hold, and what their operations do.
pub mod inner
pub mod Ring
pub mod Headers
pub mod State
pub mod Push
pub mod Entries
pub mod Written
pub mod Queue
pub mod Turned
