-- 01, "Rust forms and their Rattle forms": number sums and differences wrap at 65,536.
use Rattle.std.specs.Prelude.{ℕ, ◌+◌, ◌-◌, ◌%◌}

-- how many sequence numbers there are
abbrev pub turn : ℕ
turn = 65536

-- the number n after seq
abbrev pub after : ℕ → ℕ → ℕ
after seq n = (seq + n) % turn

-- how far `to` is ahead of `from`; both are numbers below a turn
abbrev pub ahead : ℕ → ℕ → ℕ
ahead from to = (to + (turn - from)) % turn
