-- The numbers of the C functions.
pub mod Numbers
