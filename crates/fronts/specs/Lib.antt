-- The definitions that the contracts of `fronts` cite.
pub mod Commands
