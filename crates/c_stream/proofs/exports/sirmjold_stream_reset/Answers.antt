-- The words are loaded, the call is made, and the words are stored.
use Rattle.c_stream.specs.Exports.{reset_export}
use Rattle.c_words.proofs.Entries.{made, words_refused}
use Rattle.c_state.proofs.Ends.{both_whole}
use Rattle.c_state.specs.Theorems.{Wide}
use Rattle.c_stream.proofs.Places.{reset_narrow}
use native.Mathlib.Omega.{arith}
use mathlib.Core.Path.{refl, sym, ◌∙◌}
use Rattle.c_stream.proofs.exports.sirmjold_stream_reset.Goals as goal
use Rattle.c_stream.proofs.exports.sirmjold_stream_reset.Goals.{After-slice_known-1}

wide : (c : After-slice_known-1) → Wide c.args.s.now
wide c = λ k. omega (arith, c.type_inv.s k)

pub load-before-requires : goal.load-before-requires
load-before-requires c = sym c.fits.ensures ∙ c.if-fits.true

pub store-requires : goal.store-requires
store-requires c = (
  both_whole _ (sym c.fits.ensures ∙ c.if-fits.true),
  reset_narrow c.args.s.now (wide (goal.at.store-requires c).After-slice_known-1) _ c.load-before.ensures _ _ _ c.reset-done.ensures,
)

pub returns-then-fits : goal.returns-then-fits
unfolding reset_export
returns-then-fits c =
    let q = rw c.load-before.ensures at c.reset-done.ensures in
    made _ _ refl (sym c.fits.ensures ∙ c.if-fits.true) (rw (c.number.ensures, c.store.ensures, ← q))

pub returns : goal.returns
unfolding reset_export
returns c = words_refused _ _ refl (sym c.fits.ensures ∙ c.if-fits.false) refl
