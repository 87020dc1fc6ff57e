-- 01, "Session cases", those marked P.
pub mod Cases
