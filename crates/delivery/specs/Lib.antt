-- The contract sentence: a change played is handed to the chamber once, or lies in a reported loss.
pub mod Commands
pub mod Positions
pub mod Console
pub mod Chamber
pub mod Performance
pub mod Sentence
pub mod Repeats
pub mod Paced
pub mod Take
