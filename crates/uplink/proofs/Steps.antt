-- A step: its ways out, and the grants in their places.
use mathlib.Core.Path.{◌≡◌, ◌∙◌}
use Rattle.std.proofs.Common.{Ok}
use mathlib.Core.Bool.{true, false}
use mathlib.Core.List.{List, ◌++◌, append_assoc}
use Prim.Native.Nat.{ℕ, zero, suc, ◌+◌, ◌-◌, ◌≤◌, ◌<◌}
use native.Mathlib.Omega.{arith}
use borrow.Author.Tests.{ltb-true, lt-ltb, not-false}
use lib.ListN.{length, take, drop, replicate, length-append, length-drop, length-replicate}
use lib.Seq.{sets, sets-eq, take_all, length-sets, length-take-le, drop_at}
use lib.Dec.{ltb}
use Rattle.config.specs.Range.{within, outside}
use Rattle.config.specs.inner.Ranges.{not_outside}
use Rattle.config.specs.inner.Tests.{and_right}
use Rattle.uplink.specs.Grants.{sum, share_of, firsts, granted, left_of, round_from, grants_of, next_of, places, allowed, step_of}
use Rattle.uplink.specs.declared.grants.Served.{Served}
use Rattle.uplink.proofs.Sums.{length_granted}

-- ---- the number and the turn

pub turn_in : (n turn : ℕ) → allowed n turn ≡ true → turn < n
unfolding allowed
turn_in n turn e = ltb-true _ _ (and_right (within 1 8 n) (ltb turn n) e)

pub number_in : (n : ℕ) → outside 1 8 n ≡ false → (1 ≤ n) × (n ≤ 8)
number_in n e = not_outside 1 8 n e

-- ---- the ways out

module _ (a turn : ℕ) (ws : List ℕ) where
  pub step_granted : outside 1 8 (length ws) ≡ false → turn < length ws → (gs : List ℕ) (next : ℕ) → gs ≡ places (grants_of a turn ws) → next ≡ next_of (length ws) turn
      → record { grants = gs; turn = next; answer = Ok tt } ≡ step_of a turn ws
  unfolding step_of allowed
  step_granted e h gs next f g = rw (not-false (within 1 8 (length ws)) e, lt-ltb _ _ h, f, g)

-- ---- the eight places

drop_zeros : (k m : ℕ) → drop {A = ℕ} k (replicate m 0) ≡ replicate (m - k) 0
drop_zeros zero m = let e : m - 0 ≡ m = omega arith in rw e
drop_zeros (suc k) zero = let e : 0 - suc k ≡ 0 = omega arith in rw e
drop_zeros (suc k) (suc m) = let e : suc m - suc k ≡ m - k = omega arith in rw e (drop_zeros k m)

-- the later row is stored behind the earlier one's places, and then the earlier one
places_stored : (m : ℕ) (xs ys : List ℕ) (t : ℕ) → length xs ≡ t → t + length ys ≤ m
    → sets (sets (replicate m 0) t ys) 0 xs ≡ xs ++ ys ++ replicate (m - length (xs ++ ys)) 0
places_stored m xs ys t e h =
    let zeros : List ℕ = replicate m 0 in
    let l : length zeros ≡ m = length-replicate m 0 in
    let z : length (take t zeros) ≡ t = length-take-le t zeros (omega arith) in
    let late : sets zeros t ys ≡ take t zeros ++ ys ++ drop (t + length ys) zeros = sets-eq ys zeros t (omega arith) in
    let k : length (sets zeros t ys) ≡ m = length-sets zeros t ys ∙ l in
    let n : length (xs ++ ys) ≡ t + length ys = length-append xs ys ∙ rw e in
    let o : 0 + length xs ≡ t = omega arith in
    sets-eq xs (sets zeros t ys) 0 (omega arith)
    ∙ rw (late, append_assoc (take t zeros) ys (drop (t + length ys) zeros), o, drop_at (take t zeros) (ys ++ drop (t + length ys) zeros) t z, drop_zeros, n, append_assoc xs ys)

module _ (a turn : ℕ) (ws : List ℕ) (h : turn < length ws) (m : length ws ≤ 8) where
  -- the divisions from the turn on, as the code has them
  abbrev pub onward : List ℕ
  onward = take (length ws - turn) (drop turn ws)

  onward_is : onward ≡ drop turn ws
  onward_is = take_all (length ws - turn) (drop turn ws) (omega (arith, length-drop turn ws))

  pub grants_stored : (share left : ℕ) (from round : Served) → share ≡ share_of a (length ws) → left ≡ a - sum (firsts share ws)
      → from ≡ record { grants = sets (replicate 8 0) turn (granted share left onward); left = left_of share left onward }
      → round ≡ record { grants = sets from.grants 0 (granted share from.left (take turn ws)); left = left_of share from.left (take turn ws) }
      → round.grants ≡ places (grants_of a turn ws)
  unfolding grants_of round_from
  grants_stored share left from round e f p q =
      let late : List ℕ = granted share left (drop turn ws) in
      let early : List ℕ = granted share (left_of share left (drop turn ws)) (take turn ws) in
      let k : length early ≡ turn = length_granted share _ (take turn ws) ∙ length-take-le turn ws (omega arith) in
      let j : length late ≡ length ws - turn = length_granted share left (drop turn ws) ∙ length-drop turn ws in
      rw (q, p, onward_is, ← e, ← f) (places_stored 8 early late turn k (omega arith))
