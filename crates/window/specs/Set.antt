-- A set of positions, as a number: digit k of it is position k.
-- 01, "Rust forms and their Rattle forms": the 128-bit set is two 64-bit words.
use Rattle.std.specs.Prelude.{Bool, ℕ, zero, suc, ◌+◌, ◌*◌, ◌/◌, ◌%◌, ◌^◌, eqb}
use Rattle.std.specs.Int.Count.{count_trailing_zeros}
use Rattle.window.specs.declared.set.Bits.{Bits}

-- how many positions a set has room for: the largest window
abbrev pub max_window : ℕ
max_window = 128

-- the number of a set of two words, and the words of a number: all that says how many words there are
unfoldable pub val : Bits → ℕ
val s = s.high * 2 ^ 64 + s.low

unfoldable pub set_of : ℕ → Bits
set_of n = record { low = n % 2 ^ 64; high = n / 2 ^ 64 }

-- position k is in the set
abbrev pub has : ℕ → ℕ → Bool
has n k = eqb (n / 2 ^ k % 2) 1

-- the highest position: 0 where nothing is above the lowest digit, and else one above the highest of the upper digits.
-- A number n has no more than n digits, so n is enough digits to look at.
abbrev pub over : ℕ → ℕ → ℕ
over zero t = zero
over (suc m) t = suc t

unfoldable pub top_in : ℕ → ℕ → ℕ
top_in zero n = zero
top_in (suc f) n = over (n / 2) (top_in f (n / 2))

unfoldable pub top_of : ℕ → ℕ
unfolding top_in
top_of n = top_in n n

-- the lowest position: how many digits stand below the lowest that is set
unfoldable pub bottom_of : ℕ → ℕ
bottom_of n = count_trailing_zeros n n
