-- Position k is above all of `found`, so that adding it is a sum.
use mathlib.Core.Path.{sym, ◌∙◌}
use Prim.Native.Nat.{◌^◌, ◌<◌}
use native.Mathlib.Omega.{arith}
use Rattle.window.proofs.Hits.{hit_yes, hit_out, hit_no}
use Rattle.window.proofs.tested.hit.Goals as goal
use Rattle.window.proofs.tested.hit.Goals.{else-holds-via-then-holds+else-contains, else-holds-via-else-holds}
use Rattle.window.proofs.tested.hit.Goals.{Start}

low : (c : Start) → c.args.found.low < 2 ^ 64
low c = omega arith

pub returns-then-contains : goal.returns-then-contains
returns-then-contains c =
    c.with.ensures ∙ hit_yes _ _ _ _ _ c.number_at.ensures (sym c.holds.ensures ∙ c.if-holds.true) c.requires.1 (sym c.contains.ensures ∙ c.if-contains.true)

pub returns : goal.returns
returns c =
    let b = low (goal.at.returns c).Start in
    elim c.else-holds.branch [
      | else-holds-via-then-holds+else-contains w ↦
          hit_out _ _ _ _ _ w.number_at.ensures (sym c.holds.ensures ∙ w.if-holds.true) b (sym w.contains.ensures ∙ w.if-contains.false)
      | else-holds-via-else-holds w ↦ hit_no _ _ _ _ _ b (sym c.holds.ensures ∙ w.if-holds.false)
    ]
