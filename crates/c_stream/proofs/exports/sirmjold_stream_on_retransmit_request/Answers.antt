-- Settings, then words; the call is made, and the words of the sender are stored.
use mathlib.Core.Path.{sym, ◌∙◌}
use Rattle.stream.specs.Ends.{request_answer}
use Rattle.c_state.specs.Stream.{loaded}
use Rattle.c_state.specs.Theorems.{Wide}
use Rattle.c_state.proofs.Ends.{sender_whole}
use Rattle.c_words.proofs.Entries.{made, words_refused, settings_refused}
use Rattle.c_words.proofs.Figures.{passed, figures_small}
use Rattle.c_stream.specs.Exports.{request_export}
use Rattle.c_stream.proofs.Places.{request_narrow}
use native.Mathlib.Omega.{arith}
use Rattle.c_stream.proofs.exports.sirmjold_stream_on_retransmit_request.Goals as goal
use Rattle.c_stream.proofs.exports.sirmjold_stream_on_retransmit_request.Goals.{After-slice_known-1}

wide : (c : After-slice_known-1) → Wide c.args.s.now
wide c = λ k. omega (arith, c.type_inv.s k)

pub sender_in-before-requires : goal.sender_in-before-requires
sender_in-before-requires c = sym c.sender_fits.ensures ∙ c.if-sender_fits.true

pub load-requires : goal.load-requires
load-requires c = figures_small _ (passed _ c.number-number.ensures c.if-number-eq0.true)

pub store_sender-requires : goal.store_sender-requires
store_sender-requires c = (sender_whole _ (sym c.sender_fits.ensures ∙ c.if-sender_fits.true), request_narrow c.args.s.now (wide (goal.at.store_sender-requires c).After-slice_known-1) _ c.sender_in-before.ensures _ _ _ _ c.on_retransmit_request-done.ensures)

pub returns-then-sender_fits : goal.returns-then-sender_fits
unfolding request_export request_answer loaded
returns-then-sender_fits c = made _ _ (passed _ c.number-number.ensures c.if-number-eq0.true) (sym c.sender_fits.ensures ∙ c.if-sender_fits.true) (rw (c.of_outcome.ensures, c.store_sender.ensures, c.on_retransmit_request-done.ensures, c.sender_in-before.ensures, c.load.ensures))

pub returns-then-number-eq0 : goal.returns-then-number-eq0
unfolding request_export request_answer loaded
returns-then-number-eq0 c = words_refused _ _ (passed _ c.number-number.ensures c.if-number-eq0.true) (sym c.sender_fits.ensures ∙ c.if-sender_fits.false) (rw c.refused_outcome.ensures)

pub returns : goal.returns
unfolding request_export request_answer loaded
returns c = settings_refused _ _ _ _ c.number-number.ensures c.if-number-eq0.false (rw c.refused_outcome-2.ensures)
