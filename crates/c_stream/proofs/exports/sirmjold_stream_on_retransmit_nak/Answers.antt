-- The words are loaded, the call is made, and the words of its end are stored.
use mathlib.Core.Path.{refl, sym, ◌∙◌}
use Rattle.c_stream.specs.Exports.{nak_export}
use Rattle.c_state.specs.Stream.{loaded}
use Rattle.stream.specs.Ends.{nak_answer}
use Rattle.c_words.proofs.Entries.{made, words_refused}
use Rattle.c_state.proofs.Ends.{receiver_whole}
use Rattle.c_state.specs.Theorems.{Wide}
use Rattle.c_stream.proofs.Places.{nak_narrow}
use native.Mathlib.Omega.{arith}
use Rattle.c_stream.proofs.exports.sirmjold_stream_on_retransmit_nak.Goals as goal
use Rattle.c_stream.proofs.exports.sirmjold_stream_on_retransmit_nak.Goals.{After-slice_known-1}

wide : (c : After-slice_known-1) → Wide c.args.s.now
wide c = λ k. omega (arith, c.slice_known-1.given k)

pub receiver_in-before-requires : goal.receiver_in-before-requires
receiver_in-before-requires c = sym c.receiver_fits.ensures ∙ c.if-receiver_fits.true

pub renew_receiver-requires : goal.renew_receiver-requires
renew_receiver-requires c = (
  receiver_whole _ (sym c.receiver_fits.ensures ∙ c.if-receiver_fits.true),
  nak_narrow c.args.s.now (wide (goal.at.renew_receiver-requires c).After-slice_known-1) _ c.receiver_in-before.ensures _ c.on_retransmit_nak-done.ensures,
)

pub returns-then-receiver_fits : goal.returns-then-receiver_fits
unfolding nak_export nak_answer loaded
returns-then-receiver_fits c = made _ _ refl (sym c.receiver_fits.ensures ∙ c.if-receiver_fits.true) (rw (c.of_event.ensures, c.renew_receiver.ensures, c.on_retransmit_nak-done.ensures, c.receiver_in-before.ensures))

pub returns : goal.returns
unfolding nak_export nak_answer loaded
returns c = words_refused _ _ refl (sym c.receiver_fits.ensures ∙ c.if-receiver_fits.false) (rw c.refused_event.ensures)
