-- 02, 10/14: the file comes in blocks of whole records, and the figures run on across them. Lists of calls, from a start.
use Rattle.std.specs.Prelude.{ℕ, ◌≡◌, Bool, true, ◌&&◌, cond, List, [], ◌∷◌, ◌++◌, length, replicate, eqb}
use Rattle.config.specs.Range.{within}
use Rattle.sheet_blocks.specs.Bytes.{spliced}
use Rattle.sheet_blocks.specs.Records.{rows}
use Rattle.loss_sheet.specs.Sheet.{all_below, fresh, state_ok, taken_of, block_of}
use Rattle.loss_sheet.specs.declared.sheet.Sheet.{Sheet}
use Rattle.sheet_log.specs.Afresh.{figures_of}

-- a call: the block, and the output lent for it
abbrev pub Call : Type 0
Call = List ℕ × List ℕ

-- both are bytes
unfoldable pub all_bytes : List Call → Bool
all_bytes [] = true
all_bytes (c ∷ cs) = all_below 256 c.0 && (all_below 256 c.1 && all_bytes cs)

-- the state and the ring after some calls
unfoldable pub after : Sheet → List ℕ → List Call → Sheet × List ℕ
after s b [] = (s, b)
after s b (c ∷ cs) = after (block_of s b c.0 c.1).0.sheet (block_of s b c.0 c.1).1 cs

-- the state and the ring after some calls, from a start over a ring of n words
abbrev pub started : ℕ → List Call → Sheet × List ℕ
started n cs = after (fresh n) (replicate n 0) cs

-- the file so far: the blocks that neither 16 nor 17 refuses, joined
unfoldable pub file : List Call → List ℕ
file [] = []
file (c ∷ cs) = cond (eqb (taken_of c.0 (length c.1)) 0) c.0 [] ++ file cs

-- calls from a start over a ring of that many words leave the state and the ring
pub record LeftBy (s : Sheet) (b : List ℕ) : Type 0 where
  pub calls : List Call
  pub bytes : all_bytes calls ≡ true
  pub leaves : started s.n calls ≡ (s, b)

-- After any calls from a start the state passes the state test, so that a next block is refused by 16 or 17 alone;
-- where it is not, the output is that of the figures of its records, worked afresh over the file so far with the block behind it.
-- And each state that passes the test is left by some calls: 13 refuses just the states that no calls have left.
pub record RunsOn : Type 0 where
  pub passes : (n : ℕ) (cs : List Call) → within 1 4096 n ≡ true → all_bytes cs ≡ true → state_ok (started n cs).0 (started n cs).1 ≡ true
  pub answers : (n : ℕ) (cs : List Call) (bs o : List ℕ) → within 1 4096 n ≡ true → all_bytes cs ≡ true
      → (block_of (started n cs).0 (started n cs).1 bs o).0.refusal ≡ taken_of bs (length o)
  pub writes : (n : ℕ) (cs : List Call) (bs o : List ℕ) → within 1 4096 n ≡ true → all_bytes cs ≡ true → all_below 256 bs ≡ true → taken_of bs (length o) ≡ 0
      → (block_of (started n cs).0 (started n cs).1 bs o).2 ≡ spliced o 0 (figures_of n (file cs ++ bs) (rows (file cs)) (rows bs))
  pub reached : (s : Sheet) (b : List ℕ) → within 1 4096 s.n ≡ true → state_ok s b ≡ true → LeftBy s b
