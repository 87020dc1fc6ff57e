-- A row of divisions, served one after the other: the first grants and the rest, division by division.
use mathlib.Core.Path.{◌≡◌}
use mathlib.Core.List.{List}
use Prim.Native.Nat.{ℕ, suc, ◌+◌, ◌-◌, ◌≤◌, ◌<◌, min}
use native.Mathlib.Numerals.{add-one}
use native.Mathlib.Omega.{arith}
use lib.ListN.{length, drop, get_or, set, drop_of_length-le}
use lib.Seq.{drop-cons, sets}
use Rattle.uplink.specs.Grants.{sum, firsts, granted, left_of}

module _ (share : ℕ) (ws : List ℕ) (i : ℕ) where
  -- ---- one division more

  module _ (h : i < length ws) where
    pub firsts_step : sum (firsts share (drop i ws)) ≡ min (get_or ws i 0) share + sum (firsts share (drop (i + 1) ws))
    unfolding sum firsts
    firsts_step = rw (drop-cons ws i 0, add-one)

    module _ (left w first more : ℕ) (want : w ≡ get_or ws i 0) (own : first ≡ min w share) (rest : more ≡ min (w - first) left) where
      pub granted_step : (gs : List ℕ) (at : ℕ)
          → sets (set gs (at + i) (first + more)) (at + (i + 1)) (granted share (left - more) (drop (i + 1) ws)) ≡ sets gs (at + i) (granted share left (drop i ws))
      unfolding granted
      granted_step gs at = let e : at + (i + 1) ≡ suc (at + i) = omega arith in rw (e, add-one, drop-cons ws i 0 h, rest, own, want)

      pub left_step : left_of share (left - more) (drop (i + 1) ws) ≡ left_of share left (drop i ws)
      unfolding left_of
      left_step = rw (add-one, drop-cons ws i 0 h, rest, own, want)

  -- ---- past the last

  module _ (h : length ws ≤ i) where
    pub firsts_end : sum (firsts share (drop i ws)) ≡ 0
    unfolding sum firsts
    firsts_end = rw (drop_of_length-le ws h)

    pub granted_end : (left at : ℕ) (gs : List ℕ) → gs ≡ sets gs at (granted share left (drop i ws))
    unfolding granted
    granted_end left at gs = rw (drop_of_length-le ws h)

    pub left_end : (left : ℕ) → left ≡ left_of share left (drop i ws)
    unfolding left_of
    left_end left = rw (drop_of_length-le ws h)
