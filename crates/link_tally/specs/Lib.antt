-- What this crate's functions hand back, by the definitions of crate link_rules.
pub mod Tally
