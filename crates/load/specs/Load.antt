-- 02, 1/14: the load draws 32-bit values, each the last, at first the seed, times 1664525 plus 1013904223, modulo 2^32.
use Rattle.std.specs.Prelude.{ℕ, zero, suc, ◌+◌, ◌*◌, ◌/◌, ◌%◌, ◌^◌, Bool, cond, List, [], ◌∷◌, replicate, ◌==◌}
use Rattle.load.specs.declared.load.Load.{Load}
use Rattle.load.specs.declared.load.Jump.{Jump}
use Rattle.load.specs.declared.load.Words.{Words}

-- ---- values: the one after x
unfoldable pub next : ℕ → ℕ
next x = (x * 1664525 + 1013904223) % 2 ^ 32

-- a step so many times, one after the other
unfoldable pub iterate : (ℕ → ℕ) → ℕ → ℕ → ℕ
iterate f zero x = x
iterate f (suc n) x = iterate f n (f x)

-- the value after n single draws
abbrev pub drawn : ℕ → ℕ → ℕ
drawn n x = iterate next n x

-- the first n values of a seed, in order
unfoldable pub values_of : ℕ → ℕ → List ℕ
values_of zero x = []
values_of (suc n) x = next x ∷ values_of n (next x)

-- ---- what a value asks to send: its top bit is 1 for send and 0 for idle
abbrev pub sends : ℕ → Bool
sends x = x / 2 ^ 31 % 2 == 1

-- the next three bits give the words sent, less one
unfoldable pub count_of : ℕ → ℕ
count_of x = cond (sends x) (x / 2 ^ 28 % 8 + 1) 0

-- each of them 20903C40
abbrev pub word : ℕ
word = 0x20903C40

abbrev pub words_of : ℕ → List ℕ
words_of x = replicate (count_of x) word

-- ---- how many binary digits a number has: none for 0, and else one more than its half. A number n has no more than n of them, so n is
-- enough to look at.
unfoldable pub digits_in : ℕ → ℕ → ℕ
digits_in zero n = zero
digits_in (suc f) zero = zero
digits_in (suc f) (suc n) = suc (digits_in f (suc n / 2))

unfoldable pub digits_of : ℕ → ℕ
digits_of n = digits_in n n

-- ---- the calls
abbrev pub draw_of : Load → Load
draw_of s = record { last = next s.last }

-- drawing n at one step equals n single draws; a round for each binary digit of n
abbrev pub jump_of : Load → ℕ → Jump
jump_of s n = record { load = record { last = drawn n s.last }; rounds = digits_of n }

-- the words are the first `count`
abbrev pub asked_of : Load → Words
asked_of s = record { words = replicate 8 word; count = count_of s.last }
