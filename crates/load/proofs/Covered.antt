-- What the theorems are said of: every call with any count, every seed, any number of calls, and more draws than one jump makes.
use Rattle.std.proofs.Common.{◌≡◌, ℕ, ◌^◌, ◌<◌, ◌≤◌, [], ◌∷◌, refl, arith}
use Rattle.load.specs.declared.load.Load.{Load}
use Rattle.load.specs.Load.{drawn, draw_of, jump_of}
use Rattle.load.specs.Theorems.{draw, jump, run, total, MadeAgain, FewRounds}

-- a list may hold either call, a jump with any 16-bit count; each does what its contract says
every_call : (s : Load) (n : ℕ) → n < 65536 → run (draw ∷ jump n ∷ []) s ≡ (jump_of (draw_of s) n).load
unfolding run
every_call s n h = refl

-- two jumps lead further than one can
past_a_jump : MadeAgain → (seed : ℕ) → seed < 2 ^ 32 → run (jump 65535 ∷ draw ∷ jump 65535 ∷ []) record { last = seed } ≡ record { last = drawn 131071 seed }
unfolding total
past_a_jump m seed h = m.calls (jump 65535 ∷ draw ∷ jump 65535 ∷ []) seed

-- the largest count too
every_count : FewRounds → (s : Load) → (jump_of s 65535).rounds ≤ 16
every_count f s = f.few s 65535 (omega arith)
