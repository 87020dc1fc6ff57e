-- 02, 11/14: one uplink with A words per step, and up to eight divisions behind it. Each states the words it wants.
-- Lists of wants and of grants are in division order.
use Rattle.std.specs.Prelude.{ℕ, ◌+◌, ◌-◌, ◌/◌, min, Bool, ◌&&◌, cond, List, [], ◌∷◌, ◌++◌, length, take, drop, replicate, ltb, Ok, Err}
use Rattle.config.specs.Range.{within}
use Rattle.config.specs.declared.refusal.Refusal.TheVariants.{DivisionsNotAllowed}
use Rattle.uplink.specs.declared.grants.Step.{Step}

unfoldable pub sum : List ℕ → ℕ
sum [] = 0
sum (x ∷ xs) = x + sum xs

-- ---- "first granted the smaller of that and A divided by the number of divisions, rounded down"

abbrev pub share_of : ℕ → ℕ → ℕ
share_of a n = a / n

unfoldable pub firsts : ℕ → List ℕ → List ℕ
firsts share [] = []
firsts share (w ∷ ws) = min w share ∷ firsts share ws

-- ---- "what is left goes round in division order, each taking all it still wants"

-- what a division takes of what is left
abbrev pub more : ℕ → ℕ → ℕ → ℕ
more share left want = min (want - min want share) left

-- a row of divisions, one after the other: what each has in all
unfoldable pub granted : ℕ → ℕ → List ℕ → List ℕ
granted share left [] = []
granted share left (w ∷ ws) = (min w share + more share left w) ∷ granted share (left - more share left w) ws

-- and what the row leaves
unfoldable pub left_of : ℕ → ℕ → List ℕ → ℕ
left_of share left [] = left
left_of share left (w ∷ ws) = left_of share (left - more share left w) ws

-- "from a turn": the divisions from the turn on, then those before it
unfoldable pub round_from : ℕ → ℕ → ℕ → List ℕ → List ℕ
round_from turn share left ws =
    granted share (left_of share left (drop turn ws)) (take turn ws) ++ granted share left (drop turn ws)

unfoldable pub grants_of : ℕ → ℕ → List ℕ → List ℕ
grants_of a turn ws =
    let share = share_of a (length ws) in
    round_from turn share (a - sum (firsts share ws)) ws

-- ---- a step

-- the turn "moves on by one each step, past the last to 0"
unfoldable pub next_of : ℕ → ℕ → ℕ
next_of n turn = cond (ltb (turn + 1) n) (turn + 1) 0

-- grants in eight places, those past the last division 0
abbrev pub places : List ℕ → List ℕ
places gs = gs ++ replicate (8 - length gs) 0

-- "18 when there are no divisions, more than eight, or the turn isn't one of them"
unfoldable pub allowed : ℕ → ℕ → Bool
allowed n turn = within 1 8 n && ltb turn n

unfoldable pub step_of : ℕ → ℕ → List ℕ → Step
step_of a turn ws =
    cond (allowed (length ws) turn)
    (record { grants = places (grants_of a turn ws); turn = next_of (length ws) turn; answer = Ok tt })
    (record { grants = replicate 8 0; turn = turn; answer = Err DivisionsNotAllowed })
