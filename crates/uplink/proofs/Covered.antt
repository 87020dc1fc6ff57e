-- What the theorems are said of: 1 to 8 divisions, each turn of theirs, any A and any wants, and lists with refused calls anywhere in them.
use mathlib.Core.Path.{◌≡◌, refl}
use Rattle.std.proofs.Common.{Err}
use mathlib.Core.Bool.{true, false}
use mathlib.Core.List.{List, [], ◌∷◌}
use Prim.Native.Nat.{ℕ, zero, suc, ◌≤◌, ◌<◌}
use native.Mathlib.Omega.{arith}
use borrow.Author.Tests.{lt-ltb, le-ltb, le-leb, lt-leb}
use lib.ListN.{length, get_or, replicate}
use Rattle.config.specs.Refusals.{number_of}
use Rattle.config.specs.declared.refusal.Refusal.TheVariants.{DivisionsNotAllowed}
use Rattle.uplink.specs.Grants.{next_of, allowed, step_of}
use Rattle.uplink.specs.Promise.{Shared, StepShared, Call, none, taken_of, Once, EachFirstOnce}
use Rattle.uplink.proofs.Turns.{next_in_lem, taken_granted, taken_refused}

-- ---- a step

-- 1 to 8 divisions, and each of their turns
pub every_number : (n turn : ℕ) → 1 ≤ n → n ≤ 8 → turn < n → allowed n turn ≡ true
unfolding allowed
every_number n turn l m h = rw (le-leb 1 n l, le-leb n 8 m, lt-ltb turn n h)

-- A and each want up to 65,535; none of them is asked to be larger or smaller than another
pub every_step : StepShared → (a turn : ℕ) (wants : List ℕ) → a ≤ 65535 → ((i : ℕ) → i < length wants → get_or wants i 0 ≤ 65535)
    → 1 ≤ length wants → length wants ≤ 8 → turn < length wants → Shared a wants (step_of a turn wants).grants
every_step s a turn wants p q l m h = s a turn wants (every_number (length wants) turn l m h)

-- ---- a refused call

-- its number is 18; nothing is granted, and the turn stays
pub every_refusal : (a turn : ℕ) (wants : List ℕ) → allowed (length wants) turn ≡ false
    → step_of a turn wants ≡ record { grants = replicate 8 0; turn = turn; answer = Err DivisionsNotAllowed }
unfolding step_of
every_refusal a turn wants e = rw e

its_number : number_of DivisionsNotAllowed ≡ 18
its_number = refl

-- no divisions, more than eight, or a turn that is not one of them
no_divisions : (turn : ℕ) → allowed 0 turn ≡ false
unfolding allowed
no_divisions turn = refl

many_divisions : (n turn : ℕ) → 8 < n → allowed n turn ≡ false
unfolding allowed
many_divisions n turn h = rw (le-leb 1 n (omega arith), lt-leb n 8 h)

no_turn : (n turn : ℕ) → 1 ≤ n → n ≤ 8 → n ≤ turn → allowed n turn ≡ false
unfolding allowed
no_turn n turn l m h = rw (le-leb 1 n l, le-leb n 8 m, le-ltb turn n h)

-- ---- a list of calls

-- each of n divisions, with an A and wants of its own
abbrev Each : ℕ → List Call → Type 0
Each n [] = Unit {0}
Each n (c ∷ cs) = (length c.wants ≡ n) × Each n cs

module _ (n : ℕ) (m : n ≤ 8) where
  head_taken : (turn : ℕ) (c : Call) (cs : List Call) → length c.wants ≡ n → turn < n
      → taken_of turn (c ∷ cs) ≡ record { turn = turn; divisions = n } ∷ taken_of (next_of n turn) cs
  head_taken turn c cs e h = rw (← e) (taken_granted turn c cs (every_number (length c.wants) turn (omega arith) (omega arith) (omega arith)))

  all_taken : (turn : ℕ) (cs : List Call) → Each n cs → turn < n → length (taken_of turn cs) ≡ length cs
  unfolding taken_of
  all_taken turn [] each h = refl
  all_taken turn (c ∷ cs) each h = rw (head_taken turn c cs each.0 h, all_taken (next_of n turn) cs each.1 (next_in_lem n turn h))

  all_divisions : (turn : ℕ) (cs : List Call) → Each n cs → turn < n → (k : ℕ) → k < length cs → (get_or (taken_of turn cs) k none).divisions ≡ n
  unfolding taken_of
  all_divisions turn [] each h k p = absurd (let z : ⊥ = omega arith in z)
  all_divisions turn (c ∷ cs) each h zero p = rw (head_taken turn c cs each.0 h)
  all_divisions turn (c ∷ cs) each h (suc k) p = rw (head_taken turn c cs each.0 h) (all_divisions (next_of n turn) cs each.1 (next_in_lem n turn h) k (omega arith))

  -- n calls of n divisions, from each of their turns on
  pub every_round : EachFirstOnce → (turn : ℕ) (cs : List Call) → Each n cs → length cs ≡ n → turn < n
      → (division : ℕ) → division < n → Once n division (λ k. (get_or (taken_of turn cs) k none).turn)
  every_round once turn cs each l h = once turn n cs (rw (all_taken turn cs each h) l) (λ k p. all_divisions turn cs each h k (omega arith))

-- a refused call adds nothing, wherever it stands
pub every_between : (turn : ℕ) (c : Call) (cs : List Call) → allowed (length c.wants) turn ≡ false → taken_of turn (c ∷ cs) ≡ taken_of turn cs
every_between turn c cs e = taken_refused turn c cs e

-- two divisions from turn 1 on, and refused calls between: no divisions, and nine
abbrev of : List ℕ → Call
of wants = record { words = 100; wants = wants }

refused_between : taken_of 1 (of (10 ∷ 50 ∷ []) ∷ of [] ∷ of (replicate 9 1) ∷ of (60 ∷ 70 ∷ []) ∷ [])
    ≡ record { turn = 1; divisions = 2 } ∷ record { turn = 0; divisions = 2 } ∷ []
unfolding taken_of step_of allowed next_of
refused_between = refl
