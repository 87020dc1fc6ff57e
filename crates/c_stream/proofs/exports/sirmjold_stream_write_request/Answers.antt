-- Settings, then words; the call is made, and the words of the receiver are stored.
use mathlib.Core.Path.{sym, ◌∙◌}
use borrow.Author.Tests.{eqb-true}
use Rattle.config.specs.inner.Tests.{and_left, and_right}
use Rattle.stream.specs.Ends.{take_answer}
use Rattle.c_state.specs.Stream.{loaded}
use Rattle.c_state.specs.Theorems.{Wide}
use Rattle.c_state.proofs.Ends.{receiver_whole}
use Rattle.c_words.proofs.Entries.{made, words_refused, settings_refused}
use Rattle.c_words.proofs.Figures.{passed, figures_small}
use Rattle.c_stream.specs.Exports.{take_export}
use Rattle.c_stream.proofs.Places.{take_narrow}
use native.Mathlib.Omega.{arith}
use Rattle.c_stream.proofs.exports.sirmjold_stream_write_request.Goals as goal
use Rattle.c_stream.proofs.exports.sirmjold_stream_write_request.Goals.{After-slice_known-1}

wide : (c : After-slice_known-1) → Wide c.args.s.now
wide c = λ k. omega (arith, c.type_inv.s k)

pub receiver_in-before-requires : goal.receiver_in-before-requires
receiver_in-before-requires c = sym c.receiver_fits.ensures ∙ and_left _ _ (sym c.both.ensures ∙ c.if-both.true)

pub load-requires : goal.load-requires
load-requires c = figures_small _ (passed _ c.number-number.ensures c.if-number-eq0.true)

pub load-requires-then-both : goal.load-requires-then-both
load-requires-then-both c = eqb-true _ _ (sym c.fits.ensures ∙ and_right c.receiver_fits.result _ (sym c.both.ensures ∙ c.if-both.true))

pub renew_receiver-requires : goal.renew_receiver-requires
renew_receiver-requires c = (receiver_whole _ (sym c.receiver_fits.ensures ∙ and_left _ _ (sym c.both.ensures ∙ c.if-both.true)), take_narrow c.args.s.now (wide (goal.at.renew_receiver-requires c).After-slice_known-1) _ c.receiver_in-before.ensures _ _ _ _ _ c.write_request-done.ensures)

pub store-requires : goal.store-requires
store-requires c = eqb-true _ _ (sym c.fits.ensures ∙ and_right c.receiver_fits.result _ (sym c.both.ensures ∙ c.if-both.true))

pub returns-then-both : goal.returns-then-both
unfolding take_export take_answer loaded
returns-then-both c = let q = rw (c.receiver_in-before.ensures, c.load.ensures, c.load-then-both.ensures) at c.write_request-done.ensures in made _ _ (passed _ c.number-number.ensures c.if-number-eq0.true) (sym (c.both.ensures ∙ rw (c.receiver_fits.ensures, c.fits.ensures)) ∙ c.if-both.true) (rw (c.of_request.ensures, c.renew_receiver.ensures, c.store.ensures, ← q))

pub returns-then-number-eq0 : goal.returns-then-number-eq0
unfolding take_export take_answer loaded
returns-then-number-eq0 c = words_refused _ _ (passed _ c.number-number.ensures c.if-number-eq0.true) (sym (c.both.ensures ∙ rw (c.receiver_fits.ensures, c.fits.ensures)) ∙ c.if-both.false) (rw c.refused_request.ensures)

pub returns : goal.returns
unfolding take_export take_answer loaded
returns c = settings_refused _ _ _ _ c.number-number.ensures c.if-number-eq0.false (rw c.refused_request-2.ensures)
