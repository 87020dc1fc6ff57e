-- What a step shares out: the promises of a step that is not refused.
use mathlib.Core.Path.{◌≡◌, refl, ◌∙◌}
use mathlib.Core.List.{List, ◌++◌}
use Prim.Native.Nat.{ℕ, zero, suc, ◌+◌, ◌-◌, ◌≤◌, ◌<◌, min}
use native.Mathlib.Omega.{arith}
use lib.ListN.{length, take, drop, get_or, replicate, get_or-append}
use lib.Seq.{drop-cons, get_or-append-add, length-take-le}
use Rattle.uplink.specs.Grants.{sum, share_of, firsts, granted, left_of, round_from, grants_of, places, step_of}
use Rattle.uplink.specs.Promise.{StepShared, TurnFirst}
use Rattle.uplink.proofs.Sums.{sum_append, sum_zeros, firsts_fit, length_granted, firsts_still, Between, length_round, round_at, sum_round}
use Rattle.uplink.proofs.Steps.{turn_in}

-- ---- the grants

module _ (a turn : ℕ) (ws : List ℕ) where
  length_grants : length (grants_of a turn ws) ≡ length ws
  unfolding grants_of
  length_grants = length_round _ _ _ ws

  grants_at : (i : ℕ) → i < length ws → Between (share_of a (length ws)) (get_or (grants_of a turn ws) i 0) (get_or ws i 0)
  unfolding grants_of
  grants_at i p = round_at _ _ _ ws i p

  sum_grants : sum (grants_of a turn ws) ≡ min a (sum ws)
  unfolding grants_of
  sum_grants =
      let share : ℕ = share_of a (length ws) in
      omega (arith, sum_round turn share (a - sum (firsts share ws)) ws, firsts_still share ws, firsts_fit a ws)

-- ---- in their places

zeros_at : (m i : ℕ) → get_or {A = ℕ} (replicate m 0) i 0 ≡ 0
zeros_at zero i = refl
zeros_at (suc m) zero = refl
zeros_at (suc m) (suc i) = zeros_at m i

module _ (a turn : ℕ) (ws : List ℕ) where
  place_of : (i : ℕ) → i < length ws → get_or (places (grants_of a turn ws)) i 0 ≡ get_or (grants_of a turn ws) i 0
  place_of i p = get_or-append (grants_of a turn ws) _ 0 i (rw (length_grants a turn ws) p)

  place_past : (i : ℕ) → length ws ≤ i → get_or (places (grants_of a turn ws)) i 0 ≡ 0
  place_past i p =
      let gs : List ℕ = grants_of a turn ws in
      let s : i ≡ length gs + (i - length ws) = omega (arith, length_grants a turn ws) in
      rw s (get_or-append-add gs (replicate (8 - length gs) 0) (i - length ws) 0 ∙ zeros_at (8 - length gs) (i - length ws))

pub step_shared : StepShared
unfolding step_of
step_shared a turn ws e =
    rw e
    (record {
      within = λ i p. rw (place_of a turn ws i p) (grants_at a turn ws i p).1;
      least = λ i p. rw (place_of a turn ws i p) (grants_at a turn ws i p).0;
      past = place_past a turn ws;
      whole = sum_append (grants_of a turn ws) _ ∙ rw (sum_zeros, sum_grants a turn ws) (omega arith);
    })

-- ---- the turn's division

row_first : (share left : ℕ) (ws : List ℕ) (i : ℕ) → i < length ws
    → get_or (granted share left (drop i ws)) 0 0 ≡ min (get_or ws i 0) (min (get_or ws i 0) share + left)
unfolding granted
row_first share left ws i h = rw (drop-cons ws i 0 h) (omega arith)

second_row : (xs ys : List ℕ) (n : ℕ) → length xs ≡ n → get_or (xs ++ ys) n 0 ≡ get_or ys 0 0
second_row xs ys n e = let z : n ≡ length xs + 0 = omega arith in rw z (get_or-append-add xs ys 0 0)

turn_grant : (a turn : ℕ) (ws : List ℕ) → turn < length ws
    → let w = get_or ws turn 0 in let share = share_of a (length ws) in get_or (grants_of a turn ws) turn 0 ≡ min w (min w share + (a - sum (firsts share ws)))
unfolding grants_of round_from
turn_grant a turn ws h =
    let share : ℕ = share_of a (length ws) in
    let left : ℕ = a - sum (firsts share ws) in
    let early : List ℕ = granted share (left_of share left (drop turn ws)) (take turn ws) in
    let k : length early ≡ turn = length_granted share _ (take turn ws) ∙ length-take-le turn ws (omega arith) in
    second_row early (granted share left (drop turn ws)) turn k ∙ row_first share left ws turn h

pub turn_first : TurnFirst
unfolding step_of
turn_first a turn ws e =
    let h : turn < length ws = turn_in (length ws) turn e in
    rw (e, place_of a turn ws turn h) (turn_grant a turn ws h)
