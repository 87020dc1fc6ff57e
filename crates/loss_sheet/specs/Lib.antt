-- The definitions that the contracts cite.
pub mod inner
pub mod Figures
pub mod Sheet
