-- What holds of the load over whole lists of calls.
use Rattle.std.specs.Prelude.{◌≡◌, ℕ, ◌+◌, ◌*◌, ◌^◌, ◌<◌, ◌≤◌, List, [], ◌∷◌, ◌++◌, take, slice_index}
use Rattle.load.specs.declared.load.Load.{Load}
use Rattle.load.specs.Load.{next, drawn, values_of, words_of, digits_of, draw_of, jump_of, asked_of}

-- ---- lists of calls
pub data Call : Type 0 where
  draw : Call
  jump : ℕ → Call

-- the load after a call, by that call's definition
abbrev pub after : Call → Load → Load
after draw s = draw_of s
after (jump n) s = (jump_of s n).load

-- how many draws a call stands for
abbrev pub draws : Call → ℕ
draws draw = 1
draws (jump n) = n

-- the load after a list of calls, the first of them first, and how many draws they stand for
unfoldable pub run : List Call → Load → Load
run [] s = s
run (c ∷ cs) s = run cs (after c s)

unfoldable pub total : List Call → ℕ
total [] = 0
total (c ∷ cs) = draws c + total cs

-- ---- a load that can be made again
pub record MadeAgain : Type 0 where
  -- whatever the calls, the load is where as many single draws lead
  pub calls : (cs : List Call) (seed : ℕ) → run cs record { last = seed } ≡ record { last = drawn (total cs) seed }
  -- n draws and then m are n + m
  pub in_turn : (n m seed : ℕ) → drawn m (drawn n seed) ≡ drawn (n + m) seed
  -- the values of a seed, in order: the one at place k comes with draw k + 1
  pub value : (n k seed : ℕ) → k < n → slice_index (values_of n seed) k ≡ drawn (k + 1) seed
  -- after n draws come the values that follow the seed's first n
  pub goes_on : (n m seed : ℕ) → values_of (n + m) seed ≡ values_of n seed ++ values_of m (drawn n seed)
  -- values are 32-bit numbers
  pub small : (seed : ℕ) → next seed < 2 ^ 32
  -- what is sent: at most 8 words, the first `count` of the answer
  pub few_words : (s : Load) → (asked_of s).count ≤ 8
  pub sent : (s : Load) → take (asked_of s).count (asked_of s).words ≡ words_of s.last

-- ---- rounds
pub record FewRounds : Type 0 where
  -- a count of at most 65,535 has at most 16 binary digits
  pub few : (s : Load) (n : ℕ) → n ≤ 65535 → (jump_of s n).rounds ≤ 16
  -- so many digits reach past the number, and one digit less does not
  pub enough : (n : ℕ) → n < 2 ^ digits_of n
  pub needed : (n : ℕ) → 0 < n → 2 ^ digits_of n ≤ 2 * n
