-- 01, "Position, window, loss" and "History, repeats, idle": times add with saturation at 2^64-1.
use Rattle.std.specs.Prelude.{ℕ, ◌+◌, min}

abbrev pub last_time : ℕ
last_time = 18446744073709551615

-- the time `wait` after `time`
abbrev pub later : ℕ → ℕ → ℕ
later time wait = min (time + wait) last_time
