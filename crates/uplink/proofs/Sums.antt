-- What rows of divisions are granted: each between its first share and its want, and all together.
use mathlib.Core.Path.{◌≡◌, refl, ap, ◌∙◌}
use mathlib.Core.List.{List, [], ◌∷◌, ◌++◌}
use Prim.Native.Nat.{ℕ, zero, suc, ◌+◌, ◌-◌, ◌*◌, ◌≤◌, ◌<◌, min}
use native.Mathlib.Nat.{mul_comm, div-mul-le_self}
use native.Mathlib.Omega.{arith}
use lib.ListN.{length, take, drop, get_or, replicate, length-append, length-take, length-drop, take-append-drop}
use Rattle.uplink.specs.Grants.{sum, share_of, firsts, more, granted, left_of, round_from}

-- ---- sums

pub sum_append : (xs ys : List ℕ) → sum (xs ++ ys) ≡ sum xs + sum ys
unfolding sum
sum_append [] ys = omega arith
sum_append (x ∷ xs) ys = omega (arith, sum_append xs ys)

pub sum_zeros : (k : ℕ) → sum (replicate k 0) ≡ 0
unfolding sum
sum_zeros zero = refl
sum_zeros (suc k) = omega (arith, sum_zeros k)

-- ---- first grants

module _ (share : ℕ) where
  pub firsts_append : (us vs : List ℕ) → sum (firsts share (us ++ vs)) ≡ sum (firsts share us) + sum (firsts share vs)
  unfolding sum firsts
  firsts_append [] vs = omega arith
  firsts_append (u ∷ us) vs = omega (arith, firsts_append us vs)

  firsts_most : (ws : List ℕ) → sum (firsts share ws) ≤ length ws * share
  unfolding sum firsts
  firsts_most [] = omega arith
  firsts_most (w ∷ ws) = omega (arith, firsts_most ws)

  -- what a row still wants after them
  unfoldable pub still : List ℕ → ℕ
  still [] = 0
  still (w ∷ ws) = (w - min w share) + still ws

  pub still_append : (us vs : List ℕ) → still (us ++ vs) ≡ still us + still vs
  unfolding still
  still_append [] vs = omega arith
  still_append (u ∷ us) vs = omega (arith, still_append us vs)

  pub firsts_still : (ws : List ℕ) → sum ws ≡ sum (firsts share ws) + still ws
  unfolding sum firsts still
  firsts_still [] = refl
  firsts_still (w ∷ ws) = omega (arith, firsts_still ws)

-- the first grants fit into A
pub firsts_fit : (a : ℕ) (ws : List ℕ) → sum (firsts (share_of a (length ws)) ws) ≤ a
firsts_fit a ws =
    let share : ℕ = share_of a (length ws) in
    omega (arith, firsts_most share ws, mul_comm (length ws) share, div-mul-le_self a (length ws))

-- ---- a row

module _ (share : ℕ) where
  pub length_granted : (left : ℕ) (ws : List ℕ) → length (granted share left ws) ≡ length ws
  unfolding granted
  length_granted left [] = refl
  length_granted left (w ∷ ws) = ap suc (length_granted (left - more share left w) ws)

  -- the row takes all that it still wants, or all that is left
  one_more : (first d left F S G : ℕ) → G ≡ F + min (left - min d left) S → first + min d left + G ≡ first + F + min left (d + S)
  one_more first d left F S G e = omega arith

  pub sum_granted : (left : ℕ) (ws : List ℕ) → sum (granted share left ws) ≡ sum (firsts share ws) + min left (still share ws)
  unfolding sum firsts still granted
  sum_granted left [] = omega arith
  sum_granted left (w ∷ ws) = one_more _ _ left _ _ _ (sum_granted (left - more share left w) ws)

  one_less : (d left S : ℕ) → left - min d left - S ≡ left - (d + S)
  one_less d left S = omega arith

  pub left_is : (left : ℕ) (ws : List ℕ) → left_of share left ws ≡ left - still share ws
  unfolding still left_of
  left_is left [] = omega arith
  left_is left (w ∷ ws) = left_is (left - more share left w) ws ∙ one_less _ left _

  -- ---- each division of a row, and of two rows

  abbrev pub Between : ℕ → ℕ → Type 0
  Between g w = (min w share ≤ g) × (g ≤ w)

  granted_at : (left : ℕ) (ws : List ℕ) (i : ℕ) → i < length ws → Between (get_or (granted share left ws) i 0) (get_or ws i 0)
  unfolding granted
  granted_at left [] i h = absurd (let z : ⊥ = omega arith in z)
  granted_at left (w ∷ ws) zero h = (omega arith, omega arith)
  granted_at left (w ∷ ws) (suc i) h = granted_at (left - more share left w) ws i (omega arith)

  pub rows_at : (l m : ℕ) (us vs : List ℕ) (i : ℕ) → i < length (us ++ vs)
      → Between (get_or (granted share l us ++ granted share m vs) i 0) (get_or (us ++ vs) i 0)
  unfolding granted
  rows_at l m [] vs i h = granted_at m vs i h
  rows_at l m (u ∷ us) vs zero h = (omega arith, omega arith)
  rows_at l m (u ∷ us) vs (suc i) h = rows_at (l - more share l u) m us vs i (omega arith)

-- ---- the round: two rows, the later before the earlier

one_round : (F S f s left L l : ℕ) → L ≡ F + min (left - s) S → l ≡ f + min left s → L + l ≡ F + f + min left (S + s)
one_round F S f s left L l p q = omega arith

module _ (turn share left : ℕ) (ws : List ℕ) where
  pub length_round : length (round_from turn share left ws) ≡ length ws
  unfolding round_from
  length_round = simp (length-append, length_granted, length-take, length-drop) (omega arith)

  pub round_at : (i : ℕ) → i < length ws → Between share (get_or (round_from turn share left ws) i 0) (get_or ws i 0)
  unfolding round_from
  round_at i p =
      let both : take turn ws ++ drop turn ws ≡ ws = take-append-drop turn ws in
      let b = rows_at share (left_of share left (drop turn ws)) left (take turn ws) (drop turn ws) i (rw both p) in
      rw both at b

  pub sum_round : sum (round_from turn share left ws) ≡ sum (firsts share ws) + min left (still share ws)
  unfolding round_from
  sum_round =
      let us : List ℕ = take turn ws in
      let vs : List ℕ = drop turn ws in
      let both : us ++ vs ≡ ws = take-append-drop turn ws in
      let early : sum (granted share (left_of share left vs) us) ≡ sum (firsts share us) + min (left - still share vs) (still share us) = rw (← left_is share left vs) (sum_granted share (left_of share left vs) us) in
      sum_append (granted share (left_of share left vs) us) (granted share left vs)
      ∙ one_round (sum (firsts share us)) (still share us) (sum (firsts share vs)) (still share vs) left _ _ early (sum_granted share left vs)
      ∙ rw (← firsts_append share us vs, ← still_append share us vs, both)
