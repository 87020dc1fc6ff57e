-- Settings, then words; the call is made, and what it leaves is stored, the receiver where a request was due.
use mathlib.Core.Path.{sym, ◌∙◌}
use borrow.Author.Tests.{eqb-true}
use Rattle.config.specs.inner.Tests.{and_left, and_right}
use Rattle.c_state.specs.Theorems.{Wide}
use Rattle.c_words.proofs.Entries.{made, words_refused, settings_refused}
use Rattle.c_words.proofs.Figures.{passed, figures_small}
use Rattle.c_sending.specs.Exports.{send_and_write_export}
use Rattle.c_sending.proofs.Stays.{both_narrow, both_stays}
use native.Mathlib.Omega.{arith}
use Rattle.c_sending.proofs.exports.sirmjold_stream_send_and_write.Goals as goal
use Rattle.c_sending.proofs.exports.sirmjold_stream_send_and_write.Goals.{After-slice_known-1}

wide : (c : After-slice_known-1) → Wide c.args.s.now
wide c = λ k. omega (arith, c.type_inv.s k)

pub load-before-requires : goal.load-before-requires
load-before-requires c = sym c.fits.ensures ∙ and_left _ _ (sym c.both.ensures ∙ c.if-both.true)

pub load-requires : goal.load-requires
load-requires c = figures_small _ (passed _ c.number-number.ensures c.if-number-eq0.true)

pub load-requires-then-both : goal.load-requires-then-both
load-requires-then-both c = eqb-true _ _ (sym c.fits-then-number-eq0.ensures ∙ and_right c.fits.result _ (sym c.both.ensures ∙ c.if-both.true))

pub store_written-requires : goal.store_written-requires
store_written-requires c = let n = both_narrow c.args.s.now (wide (goal.at.store_written-requires c).After-slice_known-1) _ c.load-before.ensures _ _ _ _ _ _ _ _ _ c.send_and_write-done.ensures in (sym c.fits.ensures ∙ and_left _ _ (sym c.both.ensures ∙ c.if-both.true), n.0, n.1, both_stays c.args.s.now _ c.load-before.ensures _ _ _ _ _ _ _ _ _ c.send_and_write-done.ensures)

pub store-requires : goal.store-requires
store-requires c = eqb-true _ _ (sym c.fits-then-number-eq0.ensures ∙ and_right c.fits.result _ (sym c.both.ensures ∙ c.if-both.true))

pub returns-then-both : goal.returns-then-both
unfolding send_and_write_export
returns-then-both c = let q = rw (c.load-before.ensures, c.load.ensures, c.load-then-both.ensures) at c.send_and_write-done.ensures in made _ _ (passed _ c.number-number.ensures c.if-number-eq0.true) (sym (c.both.ensures ∙ rw (c.fits.ensures, c.fits-then-number-eq0.ensures)) ∙ c.if-both.true) (rw (c.of_send_and_write.ensures, c.store_written.ensures, c.store.ensures, ← q))

pub returns-then-number-eq0 : goal.returns-then-number-eq0
unfolding send_and_write_export
returns-then-number-eq0 c = words_refused _ _ (passed _ c.number-number.ensures c.if-number-eq0.true) (sym (c.both.ensures ∙ rw (c.fits.ensures, c.fits-then-number-eq0.ensures)) ∙ c.if-both.false) (rw c.refused_sent_written.ensures)

pub returns : goal.returns
unfolding send_and_write_export
returns c = settings_refused _ _ _ _ c.number-number.ensures c.if-number-eq0.false (rw c.refused_sent_written-2.ensures)
