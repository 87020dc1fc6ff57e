-- The definitions that the contracts of `read_command` cite.
pub mod Words
pub mod Next
