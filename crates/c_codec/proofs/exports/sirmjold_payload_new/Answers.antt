-- The new payload is stored.
use Rattle.c_codec.specs.Exports.{open_export}
use Rattle.c_words.proofs.Entries.{made, words_refused}
use borrow.Author.Tests.{eq-eqb, ne_eqb}
use mathlib.Core.Path.{refl, sym, ◌∙◌}
use Rattle.c_codec.proofs.exports.sirmjold_payload_new.Goals as goal

pub open-requires : goal.open-requires
open-requires c = c.if-p-eq2.true

pub returns-in-Ok : goal.returns-in-Ok
unfolding open_export
returns-in-Ok c =
    let o = sym c.new.ensures ∙ c.in-Ok.is in
    made _ _ refl (eq-eqb _ 2 c.if-p-eq2.true) (rw (c.open.ensures, o))

pub returns-in-Err : goal.returns-in-Err
unfolding open_export
returns-in-Err c =
    let o = sym c.new.ensures ∙ c.in-Err.is in
    made _ _ refl (eq-eqb _ 2 c.if-p-eq2.true) (rw (c.number.ensures, o))

pub returns : goal.returns
unfolding open_export
returns c = words_refused _ _ refl (ne_eqb _ 2 c.if-p-eq2.false) refl
