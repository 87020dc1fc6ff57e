use mathlib.Core.Path.{refl, sym, ◌∙◌}
use native.Mathlib.Omega.{arith}
use Rattle.held_notes.specs.State.{notes_below}
use Rattle.held_notes.proofs.Lists.{few, listed_held, listed_not, listed_all}
use Rattle.held_notes.proofs.listing.listed.Goals as goal
use Rattle.held_notes.proofs.listing.listed.Goals.{then-holds, else-holds}

pub loop-note-init : goal.loop-note-init
unfolding notes_below
loop-note-init c = (omega arith, refl, refl)

pub offset_bounds-items-count : goal.offset_bounds-items-count
offset_bounds-items-count c = omega (arith, few c.args.held c.loop-note.note c.loop-note.items c.loop-note.count c.loop-note.invariant (omega arith))

pub bounds-items-count : goal.bounds-items-count
bounds-items-count c = omega (arith, few c.args.held c.loop-note.note c.loop-note.items c.loop-note.count c.loop-note.invariant (omega arith))

pub overflow_add-count : goal.overflow_add-count
overflow_add-count c = omega (arith, few c.args.held c.loop-note.note c.loop-note.items c.loop-note.count c.loop-note.invariant (omega arith))

pub loop-note-preserved : goal.loop-note-preserved
loop-note-preserved c =
    elim c.if-holds.branch [
      | then-holds w ↦ listed_held c.args.held c.loop-note.note c.loop-note.items c.loop-note.count c.loop-note.invariant (omega arith) (sym c.holds.ensures ∙ w.if-holds.true) c.if-holds.items c.if-holds.count w.items-is w.count-is
      | else-holds w ↦ listed_not c.args.held c.loop-note.note c.loop-note.items c.loop-note.count c.loop-note.invariant (omega arith) (sym c.holds.ensures ∙ w.if-holds.false) c.if-holds.items c.if-holds.count w.items-is w.count-is
    ]

pub returns : goal.returns
returns c =
    listed_all c.args.held c.loop-note.note c.loop-note.items c.loop-note.count c.loop-note.invariant (omega arith)
