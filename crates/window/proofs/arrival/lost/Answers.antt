-- The oldest that leaves is the oldest that was missing, if it does leave, or else the first that was skipped. From distance size + 2 on
-- skipped numbers leave, and the newest that leaves is at the size; below it only missing ones do.
use mathlib.Core.Path.{◌≡◌, ◌∙◌, sym, subst}
use Prim.Native.Nat.{ℕ, ◌-◌, ◌<◌, ◌≤◌}
use native.Mathlib.Omega.{arith}
use borrow.Author.Tests.{eqb-true}
use Rattle.window.specs.Set.{max_window, val, top_of}
use Rattle.window.proofs.Words.{val_is}
use Rattle.window.proofs.Ends.{top_from, bottom_le_top}
use Rattle.window.proofs.Spans.{pos_of_not_empty}
use Rattle.window.proofs.Losses.{loss_skipped, loss_both, loss_empty, loss_young, loss_old}
use Rattle.window.proofs.arrival.lost.Goals as goal
use Rattle.window.proofs.arrival.lost.Goals.{After-from-old, Else-empty, Joined-d-size-2, Then-empty, then-d-size-2, else-d-size-2}

-- something was missing before
some : (c : Else-empty) → 0 < val c.args.m
some c = pos_of_not_empty _ (sym c.empty.ensures ∙ c.if-empty.false)

none : (c : Then-empty) → val c.args.m ≡ 0
none c = eqb-true _ _ (sym c.empty.ensures ∙ c.if-empty.true)

-- the positions below `stay` stay in the window
stays : (c : Joined-d-size-2) → (c.if-d-size-2.stay ≡ c.args.size - c.args.d) × (c.if-d-size-2.stay ≤ max_window)
stays c = elim c.if-d-size-2.branch [ then-d-size-2 w ↦ omega arith | else-d-size-2 w ↦ omega arith ]

-- the oldest is among those that leave
left : (c : After-from-old) → 0 < val c.args.m → c.if-d-size-2.stay ≡ c.args.size - c.args.d → (0 < val c.from-old.result) × (top_of (val c.args.m) ≡ top_of (val c.from-old.result))
left c some stays =
    let m = val c.args.m in
    subst (λ (x : ℕ). (0 < x) × (top_of m ≡ top_of x)) (sym (val_is _ _ c.from-old.ensures))
    (top_from m c.if-d-size-2.stay some (omega (arith, c.top.ensures.0)))

pub returns-then-size-d : goal.returns-then-size-d
returns-then-size-d c = loss_skipped _ _ _ _ (omega arith) (none (goal.at.returns-then-size-d c).Then-empty) c.range_to.ensures

pub returns-then-empty : goal.returns-then-empty
returns-then-empty c = loss_empty _ _ _ _ (omega arith) (omega arith) (none (goal.at.returns-then-empty c).Then-empty)

pub top-requires : goal.top-requires
top-requires c = some (goal.at.top-requires c).Else-empty

pub returns-then-oldest-size : goal.returns-then-oldest-size
returns-then-oldest-size c =
    loss_young _ _ _ _ (omega arith) (some (goal.at.returns-then-oldest-size c).Else-empty) c.top.ensures.0 (omega arith)

pub from-old-requires : goal.from-old-requires
from-old-requires c = (stays (goal.at.from-old-requires c).Joined-d-size-2).1

pub bottom-requires : goal.bottom-requires
bottom-requires c = (left (goal.at.bottom-requires c).After-from-old (some (goal.at.bottom-requires c).Else-empty) (stays (goal.at.bottom-requires c).Joined-d-size-2).0).0

pub overflow_add-bottom : goal.overflow_add-bottom
overflow_add-bottom c =
    let l = left (goal.at.overflow_add-bottom c).After-from-old (some (goal.at.overflow_add-bottom c).Else-empty) (stays (goal.at.overflow_add-bottom c).Joined-d-size-2).0 in
    omega (arith, l.1, bottom_le_top _ l.0, c.bottom.ensures)

pub range_to-requires-then-d-size : goal.range_to-requires-then-d-size
range_to-requires-then-d-size c =
    let l = left (goal.at.range_to-requires-then-d-size c).After-from-old (some (goal.at.range_to-requires-then-d-size c).Else-empty) (stays (goal.at.range_to-requires-then-d-size c).Joined-d-size-2).0 in
    omega (arith, l.1, bottom_le_top _ l.0, c.bottom.ensures)

pub returns-then-d-size : goal.returns-then-d-size
returns-then-d-size c =
    let l = left (goal.at.returns-then-d-size c).After-from-old (some (goal.at.returns-then-d-size c).Else-empty) (stays (goal.at.returns-then-d-size c).Joined-d-size-2).0 in
    loss_old _ _ _ _ (omega arith) (omega arith) (stays (goal.at.returns-then-d-size c).Joined-d-size-2).0 (val_is _ _ c.from-old.ensures) l.0 (c.top.ensures.0 ∙ l.1) c.bottom.ensures c.range_to-then-d-size.ensures

pub returns : goal.returns
returns c =
    loss_both _ _ _ _ (omega arith) (some (goal.at.returns c).Else-empty) c.top.ensures.0 c.range_to-2.ensures
