-- A figure in its range, both ends taken.
use Rattle.std.specs.Prelude.{ℕ, Bool, not, ◌&&◌, nat_le}

abbrev pub within : ℕ → ℕ → ℕ → Bool
within low high n = nat_le low n && nat_le n high

abbrev pub outside : ℕ → ℕ → ℕ → Bool
outside low high n = not (within low high n)
