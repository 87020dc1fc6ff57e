-- Small figures in one number, the first lowest: four of 16 bits in a word, two of 8 bits in 16, four flags in 4. The last is all that is above the others, so that nothing of a
-- number is passed over.
use Rattle.std.specs.Prelude.{ℕ, ◌+◌, ◌*◌, ◌/◌, ◌%◌, Bool, ◌&&◌, ◌||◌, eqb}
use Rattle.c_answers.specs.Answers.{bit}
use Rattle.c_state.specs.declared.pack.Quarters.{Quarters}
use Rattle.c_state.specs.declared.pack.Halves.{Halves}
use Rattle.c_state.specs.declared.pack.Flags.{Flags}

unfoldable pub four_in : ℕ → Quarters
four_in w = record { a = w % 65536; b = w / 65536 % 65536; c = w / 4294967296 % 65536; d = w / 281474976710656 }

unfoldable pub word : ℕ → ℕ → ℕ → ℕ → ℕ
word a b c d = a + b * 65536 + c * 4294967296 + d * 281474976710656

unfoldable pub two_in : ℕ → Halves
two_in n = record { low = n % 256; high = n / 256 }

unfoldable pub pair : ℕ → ℕ → ℕ
pair low high = low + high * 256

unfoldable pub flags_in : ℕ → Flags
flags_in n = record { timer = eqb (n % 2) 1; request_due = eqb (n / 2 % 2) 1; refused = eqb (n / 4 % 2) 1; asked = eqb (n / 8) 1 }

unfoldable pub flags_number : Flags → ℕ
flags_number f = bit f.timer + bit f.request_due * 2 + bit f.refused * 4 + bit f.asked * 8

-- a flag and the figures of what it tells of: where the flag isn't set, there is no such thing, and its figures are 0
unfoldable pub held : Bool → ℕ → ℕ → ℕ → Bool
held on x y z = on || (eqb x 0 && (eqb y 0 && eqb z 0))
