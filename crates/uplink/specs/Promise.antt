-- 02, 11/14: "Grants never exceed wants, and together they are the smaller of A and all wants."
use Rattle.std.specs.Prelude.{ℕ, ◌+◌, ◌-◌, ◌/◌, ◌≤◌, ◌<◌, min, ◌≡◌, true, cond, List, [], ◌∷◌, length, get_or}
use Rattle.uplink.specs.Grants.{sum, firsts, allowed, step_of}

-- ---- a step

pub record Shared (a : ℕ) (wants grants : List ℕ) : Type 0 where
  -- no grant exceeds its want
  pub within : (i : ℕ) → i < length wants → get_or grants i 0 ≤ get_or wants i 0
  -- each division has its first share
  pub least : (i : ℕ) → i < length wants → min (get_or wants i 0) (a / length wants) ≤ get_or grants i 0
  -- there is nothing past the last
  pub past : (i : ℕ) → length wants ≤ i → get_or grants i 0 ≡ 0
  -- together they are the smaller of A and all wants
  pub whole : sum grants ≡ min a (sum wants)

-- every step that is not refused
abbrev pub StepShared : Type 0
StepShared = (a turn : ℕ) (wants : List ℕ) → allowed (length wants) turn ≡ true → Shared a wants (step_of a turn wants).grants

-- ---- the turn

-- in every step that is not refused the division whose turn it is comes first: it takes all it still wants of what the first grants leave
abbrev pub TurnFirst : Type 0
TurnFirst =
    (a turn : ℕ) (wants : List ℕ)
    → allowed (length wants) turn ≡ true
    → let want = get_or wants turn 0 in
    let share = a / length wants in
    get_or (step_of a turn wants).grants turn 0 ≡ min want (min want share + (a - sum (firsts share wants)))

pub record Call : Type 0 where
  pub words : ℕ
  pub wants : List ℕ

-- a call that was not refused: whose turn it was, and of how many divisions
pub record Taken : Type 0 where
  pub turn : ℕ
  pub divisions : ℕ

abbrev pub none : Taken
none = record { turn = 0; divisions = 0 }

-- of a list of calls, each with the turn that the one before answered, those that were not refused
unfoldable pub taken_of : ℕ → List Call → List Taken
taken_of turn [] = []
taken_of turn (c ∷ cs) =
    let later = taken_of (step_of c.words turn c.wants).turn cs in
    cond (allowed (length c.wants) turn) (record { turn = turn; divisions = length c.wants } ∷ later) later

-- of n steps, one alone has the division's turn
pub record Once (n division : ℕ) (turns : ℕ → ℕ) : Type 0 where
  pub step : ℕ
  pub within : step < n
  pub its : turns step ≡ division
  pub alone : (k : ℕ) → k < n → turns k ≡ division → k ≡ step

-- n steps of n divisions, whatever was refused between them: each division is served first in one of them alone
abbrev pub EachFirstOnce : Type 0
EachFirstOnce =
    (turn n : ℕ) (calls : List Call)
    → length (taken_of turn calls) ≡ n
    → ((k : ℕ) → k < n → (get_or (taken_of turn calls) k none).divisions ≡ n)
    → (division : ℕ) → division < n → Once n division (λ k. (get_or (taken_of turn calls) k none).turn)
