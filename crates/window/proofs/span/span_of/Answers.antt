-- The ends of the set are the ends of the span.
use mathlib.Core.Path.{◌∙◌, sym}
use Prim.Native.Nat.{◌<◌}
use native.Mathlib.Nat.{zero-add}
use native.Mathlib.Omega.{arith}
use borrow.Author.Tests.{eqb-true}
use Rattle.window.specs.Set.{val}
use Rattle.window.proofs.Ends.{bottom_le_top}
use Rattle.window.proofs.Spans.{span_none, span_some, pos_of_not_empty}
use Rattle.window.proofs.span.span_of.Goals as goal
use Rattle.window.proofs.span.span_of.Goals.{Else-empty}

pos : (c : Else-empty) → 0 < val c.args.m
pos c = pos_of_not_empty _ (sym c.empty.ensures ∙ c.if-empty.false)

pub returns-then-empty : goal.returns-then-empty
returns-then-empty c = span_none _ _ _ (eqb-true _ _ (sym c.empty.ensures ∙ c.if-empty.true))

pub top-requires : goal.top-requires
top-requires c = pos (goal.at.top-requires c).Else-empty

pub bottom-requires : goal.bottom-requires
bottom-requires c = pos (goal.at.bottom-requires c).Else-empty

pub range_to-requires : goal.range_to-requires
range_to-requires c = omega (arith, bottom_le_top _ (pos (goal.at.range_to-requires c).Else-empty))

pub returns : goal.returns
returns c =
    span_some _ _ _ _ _ _ (pos (goal.at.returns c).Else-empty) (zero-add _ ∙ sym c.top.ensures.0) (zero-add _ ∙ sym c.bottom.ensures)
    c.range_to.ensures
