-- Settings, then words, then the payload; then every command is heard.
use mathlib.Core.Path.{sym, ap, ◌∙◌}
use Rattle.config.specs.Settings.{check_of}
use Rattle.c_words.proofs.Entries.{made, words_refused, settings_refused}
use Rattle.c_words.proofs.Figures.{passed, figures_small, settings_passed}
use Rattle.c_hearing.specs.Exports.{hear_export}
use Rattle.c_hearing.proofs.Opened.{opened, not_opened}
use Rattle.c_hearing.proofs.exports.sirmjold_stream_hear.Goals as goal

pub load-requires : goal.load-requires
load-requires c = figures_small _ (passed _ c.number-number.ensures c.if-number-eq0.true)

pub hear-requires : goal.hear-requires
hear-requires c = (sym c.fits.ensures ∙ c.if-fits.true, ap check_of c.load.ensures ∙ settings_passed _ (passed _ c.number-number.ensures c.if-number-eq0.true))

pub returns-then-opens : goal.returns-then-opens
unfolding hear_export
returns-then-opens c = let q = rw (c.load.ensures, c.first.ensures) at c.hear.ensures in made _ _ (passed _ c.number-number.ensures c.if-number-eq0.true) (sym c.fits.ensures ∙ c.if-fits.true) (opened _ _ _ _ _ (sym c.opens.ensures ∙ c.if-opens.true) q)

pub returns-then-fits : goal.returns-then-fits
unfolding hear_export
returns-then-fits c = made _ _ (passed _ c.number-number.ensures c.if-number-eq0.true) (sym c.fits.ensures ∙ c.if-fits.true) (not_opened _ _ _ _ _ (sym c.opens.ensures ∙ c.if-opens.false) (rw c.refused.ensures))

pub returns-then-number-eq0 : goal.returns-then-number-eq0
unfolding hear_export
returns-then-number-eq0 c = words_refused _ _ (passed _ c.number-number.ensures c.if-number-eq0.true) (sym c.fits.ensures ∙ c.if-fits.false) (rw c.refused-then-number-eq0.ensures)

pub returns : goal.returns
unfolding hear_export
returns c = settings_refused _ _ _ _ c.number-number.ensures c.if-number-eq0.false (rw c.refused-2.ensures)
