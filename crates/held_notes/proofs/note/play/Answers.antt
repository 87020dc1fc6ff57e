-- Each way out is a kind of message.
use mathlib.Core.Path.{sym, ◌∙◌}
use mathlib.Core.List.{[]}
use native.Mathlib.Omega.{arith}
use Rattle.held_notes.proofs.Notes.{note_range, played_on, played_late, played_off, played_other, played_not_ours}
use Rattle.held_notes.proofs.note.play.Goals as goal

pub with-requires : goal.with-requires
with-requires c =
    omega (arith, c.note_of-note.ensures, note_range c.args.group c.args.first (sym c.is_ours.ensures ∙ c.if-is_ours.true))

pub returns-then-new : goal.returns-then-new
returns-then-new c =
    let p = played_on c.args.group c.args.first c.args.held _ (sym c.is_ours.ensures ∙ c.if-is_ours.true) _ c.note_of-note.ensures (sym c.is_on.ensures ∙ c.if-is_on.true) c.with.ensures in
    rw c.if-new.true p

pub returns-then-is_on : goal.returns-then-is_on
returns-then-is_on c =
    let p = played_late c.args.group c.args.first c.args.held [] (sym c.is_ours.ensures ∙ c.if-is_ours.true) (sym c.is_on.ensures ∙ c.if-is_on.true) in
    rw c.if-new.false p

pub without-requires : goal.without-requires
without-requires c =
    omega (arith, c.note_of-note.ensures, note_range c.args.group c.args.first (sym c.is_ours.ensures ∙ c.if-is_ours.true))

pub returns-then-is_off : goal.returns-then-is_off
returns-then-is_off c =
    played_off c.args.group c.args.first c.args.held _ (sym c.is_ours.ensures ∙ c.if-is_ours.true) _ _ c.note_of-note.ensures (sym c.is_on.ensures ∙ c.if-is_on.false) (sym c.is_off.ensures ∙ c.if-is_off.true)
    c.without.ensures

pub returns-then-is_ours : goal.returns-then-is_ours
returns-then-is_ours c =
    played_other c.args.group c.args.first c.args.held [] (sym c.is_ours.ensures ∙ c.if-is_ours.true) _ (sym c.is_on.ensures ∙ c.if-is_on.false) (sym c.is_off.ensures ∙ c.if-is_off.false)

pub returns : goal.returns
returns c = played_not_ours c.args.group c.args.first c.args.held [] _ (sym c.is_ours.ensures ∙ c.if-is_ours.false)
