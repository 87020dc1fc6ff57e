-- A step of the uplink as numbers.
pub mod Numbers
