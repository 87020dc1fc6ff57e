-- Settings, then words; then the call is made on the words. Its event has no reason.
use mathlib.Core.Path.{sym, ap, ◌∙◌}
use Rattle.config.specs.Settings.{check_of}
use Rattle.c_words.proofs.Entries.{made, words_refused, settings_refused}
use Rattle.c_words.proofs.Figures.{passed, figures_small, settings_passed}
use Rattle.c_stream.specs.Exports.{poll_export}
use Rattle.c_stream.proofs.Stays.{told_out}
use Rattle.c_stream.proofs.EventWords.{no_reason}
use Rattle.c_stream.proofs.exports.poll.Goals as goal

pub load-requires : goal.load-requires
load-requires c = figures_small _ (passed _ c.number-number.ensures c.if-number-eq0.true)

pub poll-event-requires : goal.poll-event-requires
poll-event-requires c = (sym c.receiver_fits.ensures ∙ c.if-receiver_fits.true, ap check_of c.load.ensures ∙ settings_passed _ (passed _ c.number-number.ensures c.if-number-eq0.true))

pub packed-requires : goal.packed-requires
packed-requires c = no_reason _ _ _ _ _ _ _ c.poll-event.ensures c.of_event.ensures

pub returns-then-receiver_fits : goal.returns-then-receiver_fits
unfolding poll_export
returns-then-receiver_fits c = made _ _ (passed _ c.number-number.ensures c.if-number-eq0.true) (sym c.receiver_fits.ensures ∙ c.if-receiver_fits.true) (told_out c.args.s.now c.args.cfg.now _ _ _ c.load.ensures _ _ c.poll-event.ensures (c.packed.ensures ∙ c.of_event.ensures))

pub returns-then-number-eq0 : goal.returns-then-number-eq0
unfolding poll_export
returns-then-number-eq0 c = words_refused _ _ (passed _ c.number-number.ensures c.if-number-eq0.true) (sym c.receiver_fits.ensures ∙ c.if-receiver_fits.false) (rw (c.packed-then-number-eq0.ensures, c.refused_event.ensures))

pub returns : goal.returns
unfolding poll_export
returns c = settings_refused _ _ _ _ c.number-number.ensures c.if-number-eq0.false (rw (c.packed-2.ensures, c.refused_event-2.ensures))
