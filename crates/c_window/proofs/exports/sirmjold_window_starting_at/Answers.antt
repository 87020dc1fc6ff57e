-- The new window is stored.
use Rattle.c_window.specs.Window.{start_export}
use Rattle.c_words.proofs.Entries.{made, words_refused}
use borrow.Author.Tests.{eq-eqb, ne_eqb}
use mathlib.Core.Path.{refl}
use Rattle.c_window.proofs.exports.sirmjold_window_starting_at.Goals as goal

pub start-requires : goal.start-requires
start-requires c = c.if-w-eq4.true

pub returns-then-w-eq4 : goal.returns-then-w-eq4
unfolding start_export
returns-then-w-eq4 c =
    let q = rw c.starting_at.ensures at c.start.ensures in
    made _ _ refl (eq-eqb _ 4 c.if-w-eq4.true) q

pub returns : goal.returns
unfolding start_export
returns c = words_refused _ _ refl (ne_eqb _ 4 c.if-w-eq4.false) refl
