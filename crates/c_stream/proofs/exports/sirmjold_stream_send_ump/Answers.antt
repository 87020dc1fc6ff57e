-- Settings, then words; the call is made, and what it leaves of the sender but its requests is stored.
use mathlib.Core.Path.{refl, sym, ◌∙◌}
use Rattle.stream.specs.Ends.{send_answer}
use Rattle.c_state.specs.Stream.{loaded}
use Rattle.c_state.specs.Theorems.{Wide}
use Rattle.c_words.proofs.Entries.{made, words_refused, settings_refused}
use Rattle.c_words.proofs.Figures.{passed, figures_small}
use Rattle.c_stream.specs.Exports.{send_export}
use Rattle.c_stream.proofs.Places.{send_narrow}
use Rattle.c_stream.proofs.Stays.{send_items}
use native.Mathlib.Omega.{arith}
use Rattle.c_stream.proofs.exports.sirmjold_stream_send_ump.Goals as goal
use Rattle.c_stream.proofs.exports.sirmjold_stream_send_ump.Goals.{After-slice_known-1}

wide : (c : After-slice_known-1) → Wide c.args.s.now
wide c = λ k. omega (arith, c.type_inv.s k)

pub sender_in-before-requires : goal.sender_in-before-requires
sender_in-before-requires c = sym c.sender_fits.ensures ∙ c.if-sender_fits.true

pub load-requires : goal.load-requires
load-requires c = figures_small _ (passed _ c.number-number.ensures c.if-number-eq0.true)

pub store_figures-requires : goal.store_figures-requires
store_figures-requires c = (sym c.sender_fits.ensures ∙ c.if-sender_fits.true, send_narrow c.args.s.now (wide (goal.at.store_figures-requires c).After-slice_known-1) _ c.sender_in-before.ensures _ _ _ _ _ c.send_ump-done.ensures, send_items c.args.s.now _ c.sender_in-before.ensures _ _ _ _ _ c.send_ump-done.ensures)

pub returns-then-sender_fits : goal.returns-then-sender_fits
unfolding send_export send_answer loaded
returns-then-sender_fits c = let q = rw (c.sender_in-before.ensures, c.load.ensures) at c.send_ump-done.ensures in made _ _ (passed _ c.number-number.ensures c.if-number-eq0.true) (sym c.sender_fits.ensures ∙ c.if-sender_fits.true) (rw (c.number.ensures, c.store_figures.ensures, ← q))

pub returns-then-number-eq0 : goal.returns-then-number-eq0
unfolding send_export send_answer loaded
returns-then-number-eq0 c = words_refused _ _ (passed _ c.number-number.ensures c.if-number-eq0.true) (sym c.sender_fits.ensures ∙ c.if-sender_fits.false) refl

pub returns : goal.returns
unfolding send_export send_answer loaded
returns c = settings_refused _ _ _ _ c.number-number.ensures c.if-number-eq0.false refl
