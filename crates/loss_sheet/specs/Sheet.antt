-- 02, 10/14: figures over the last n arrivals, over all while there are fewer, equal to those worked afresh; they run on across blocks.
use Rattle.std.specs.Prelude.{ℕ, ◌+◌, ◌-◌, Bool, true, ◌&&◌, ◌||◌, cond, List, [], ◌∷◌, ◌++◌, length, set, take, drop, replicate, ltb, leb, eqb}
use Rattle.config.specs.Range.{within, outside}
use Rattle.config.specs.Refusals.{number_of}
use Rattle.config.specs.declared.refusal.Refusal.TheVariants.{SizeNotAllowed, InvalidState, InvalidBlock, InvalidRecord}
use Rattle.sheet_blocks.specs.Bytes.{spliced}
use Rattle.sheet_blocks.specs.Records.{entries, all_records, is_block, rows}
use Rattle.loss_sheet.specs.Figures.{figures, figure_bytes}
use Rattle.loss_sheet.specs.declared.sheet.Sheet.{Sheet}
use Rattle.loss_sheet.specs.declared.sheet.Answered.{Answered}

-- the last n of a list, all while there are fewer
unfoldable pub last_of : ℕ → List ℕ → List ℕ
last_of n ws = drop (length ws - n) ws

-- what arrivals give that come after others: for each the figures over the last n up to it, worked afresh
unfoldable pub sheet_bytes : ℕ → List ℕ → List ℕ → List ℕ
sheet_bytes n past [] = []
sheet_bytes n past (w ∷ ws) = figure_bytes (figures (last_of n (past ++ w ∷ []))) ++ sheet_bytes n (past ++ w ∷ []) ws

-- ---- the state

-- a start
abbrev pub fresh : ℕ → Sheet
fresh n = record { n = n; head = 0; len = 0 }

unfoldable pub start_of : ℕ → List ℕ → Answered × List ℕ
start_of n b =
    cond (within 1 4096 n && eqb (length b) n)
    (record { sheet = fresh n; refusal = 0 }, replicate n 0)
    (record { sheet = fresh n; refusal = number_of SizeNotAllowed }, b)

unfoldable pub all_below : ℕ → List ℕ → Bool
all_below m [] = true
all_below m (w ∷ ws) = ltb w m && all_below m ws

-- 13 otherwise: the ring has n words; the head is one of its places, the first until n are held; words in use have a class up to 2, and others are 0
unfoldable pub state_ok : Sheet → List ℕ → Bool
state_ok s b =
    eqb (length b) s.n
    && (ltb s.head s.n
    && (leb s.len s.n
    && ((eqb s.head 0 || eqb s.len s.n)
    && (all_below 196608 (take s.len b) && all_below 1 (drop s.len b)))))

-- the words held, oldest first
unfoldable pub held : Sheet → List ℕ → List ℕ
held s b = drop s.head (take s.len b) ++ take s.head b

-- the place after i in a ring of n
unfoldable pub next_of : ℕ → ℕ → ℕ
next_of n i = cond (ltb (i + 1) n) (i + 1) 0

-- one arrival more: behind the others, or in the place of the oldest
unfoldable pub pushed : Sheet → List ℕ → ℕ → Sheet × List ℕ
pushed s b w =
    cond (ltb s.len s.n)
    (record { n = s.n; head = s.head; len = s.len + 1 }, set b s.len w)
    (record { n = s.n; head = next_of s.n s.head; len = s.len }, set b s.head w)

unfoldable pub pushed_all : Sheet → List ℕ → List ℕ → Sheet × List ℕ
pushed_all s b [] = (s, b)
pushed_all s b (w ∷ ws) = pushed_all (pushed s b w).0 (pushed s b w).1 ws

-- ---- the block call

-- 16, then 17, or 0
unfoldable pub taken_of : List ℕ → ℕ → ℕ
taken_of bs room = cond (is_block (length bs) room) (cond (all_records bs (rows bs) 0) 0 (number_of InvalidRecord)) (number_of InvalidBlock)

-- 12, then 13, then those
unfoldable pub answer_of : Sheet → List ℕ → List ℕ → ℕ → ℕ
answer_of s b bs room = cond (outside 1 4096 s.n) (number_of SizeNotAllowed) (cond (state_ok s b) (taken_of bs room) (number_of InvalidState))

-- the arrivals of a block
abbrev pub arrivals : List ℕ → List ℕ
arrivals bs = entries bs (rows bs) 0

-- the answer and the state, the ring, and the output; a refused block changes nothing
unfoldable pub block_of : Sheet → List ℕ → List ℕ → List ℕ → Answered × List ℕ × List ℕ
block_of s b bs o =
    let a : ℕ = answer_of s b bs (length o) in
    let after : Sheet × List ℕ = pushed_all s b (arrivals bs) in
    cond (eqb a 0)
    (record { sheet = after.0; refusal = 0 }, after.1, spliced o 0 (sheet_bytes s.n (held s b) (arrivals bs)))
    (record { sheet = s; refusal = a }, b, o)
