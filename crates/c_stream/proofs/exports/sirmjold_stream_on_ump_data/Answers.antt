-- Settings, then words; then the call is made on the words.
use mathlib.Core.Path.{sym, ap, ◌∙◌}
use Rattle.config.specs.Settings.{check_of}
use Rattle.c_words.proofs.Entries.{made, words_refused, settings_refused}
use Rattle.c_words.proofs.Figures.{passed, figures_small, settings_passed}
use Rattle.c_stream.specs.Exports.{data_export}
use Rattle.c_stream.proofs.Stays.{heard_out}
use Rattle.c_stream.proofs.exports.sirmjold_stream_on_ump_data.Goals as goal

pub load-requires : goal.load-requires
load-requires c = figures_small _ (passed _ c.number-number.ensures c.if-number-eq0.true)

pub hear-requires : goal.hear-requires
hear-requires c = (sym c.receiver_fits.ensures ∙ c.if-receiver_fits.true, ap check_of c.load.ensures ∙ settings_passed _ (passed _ c.number-number.ensures c.if-number-eq0.true))

pub returns-then-receiver_fits : goal.returns-then-receiver_fits
unfolding data_export
returns-then-receiver_fits c = made _ _ (passed _ c.number-number.ensures c.if-number-eq0.true) (sym c.receiver_fits.ensures ∙ c.if-receiver_fits.true) (heard_out c.args.s.now c.args.cfg.now _ _ _ c.load.ensures _ _ _ c.hear.ensures c.of_hearing.ensures)

pub returns-then-number-eq0 : goal.returns-then-number-eq0
unfolding data_export
returns-then-number-eq0 c = words_refused _ _ (passed _ c.number-number.ensures c.if-number-eq0.true) (sym c.receiver_fits.ensures ∙ c.if-receiver_fits.false) (rw c.refused_delivery.ensures)

pub returns : goal.returns
unfolding data_export
returns c = settings_refused _ _ _ _ c.number-number.ensures c.if-number-eq0.false (rw c.refused_delivery-2.ensures)
