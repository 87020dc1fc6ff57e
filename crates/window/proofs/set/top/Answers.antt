-- The count of leading zeros of the highest word that is not 0 gives its highest digit; the words above it add nothing.
use mathlib.Core.Path.{◌≡◌, ◌∙◌}
use Prim.Native.Nat.{ℕ, ◌+◌, ◌-◌, ◌^◌, ◌<◌, ◌≤◌}
use native.Mathlib.Nat.{pos_of_ne-zero}
use native.Mathlib.Omega.{arith}
use lib.Dec.{lit<, lit≤}
use Rattle.window.specs.Set.{max_window, val}
use Rattle.window.proofs.Ends.{top1, top0}
use Rattle.window.proofs.set.top.Goals as goal
use Rattle.window.proofs.set.top.Goals.{Start}

bounds : (c : Start) → (c.args.s.high < 2 ^ 64) × (c.args.s.low < 2 ^ 64)
bounds c = omega arith

small : (n z : ℕ) → 63 ≤ n → z ≤ 63 → z ≤ n
small n z p q = omega arith

below : (n z : ℕ) → n < max_window → n - z < max_window
below n z p = omega arith

less : (z : ℕ) → z ≤ 63 → 127 - z ≡ 63 - z + 64
less z p = omega arith

pub overflow_sub-result-then-s-ne0 : goal.overflow_sub-result-then-s-ne0
unfolding val
overflow_sub-result-then-s-ne0 c =
    let b = bounds (goal.at.overflow_sub-result-then-s-ne0 c).Start in
    small 127 _ (lit≤ tt) (top1 _ c.args.s.low b.0 b.1 (pos_of_ne-zero c.if-s-ne0.true)).0

pub returns-then-s-ne0 : goal.returns-then-s-ne0
unfolding val
returns-then-s-ne0 c =
    let b = bounds (goal.at.returns-then-s-ne0 c).Start in
    let t = top1 _ c.args.s.low b.0 b.1 (pos_of_ne-zero c.if-s-ne0.true) in
    (less _ t.0 ∙ t.1, below 127 _ (lit< tt))

pub overflow_sub-result-3 : goal.overflow_sub-result-3
unfolding val
overflow_sub-result-3 c =
    let b = bounds (goal.at.overflow_sub-result-3 c).Start in
    (top0 _ _ b.0 b.1 c.if-s-ne0.false c.requires).0

pub returns : goal.returns
unfolding val
returns c =
    let b = bounds (goal.at.returns c).Start in
    ((top0 _ _ b.0 b.1 c.if-s-ne0.false c.requires).1, below 63 _ (lit< tt))
