-- Laws that the theorems cite.
pub mod Inverse
pub mod Joined
pub mod Kept
pub mod Left
pub mod Afresh
pub mod Covered
pub mod Examples
