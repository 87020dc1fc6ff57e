-- What one message does to the notes of a group.
pub mod Notes
