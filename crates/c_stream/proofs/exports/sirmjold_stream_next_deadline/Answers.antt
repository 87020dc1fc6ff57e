-- The words are loaded, and the call is made.
use mathlib.Core.Path.{refl, sym, ◌∙◌}
use Rattle.c_stream.specs.Exports.{deadline_export}
use Rattle.c_words.proofs.Entries.{made, words_refused}
use Rattle.c_stream.proofs.exports.sirmjold_stream_next_deadline.Goals as goal

pub load-stream-requires : goal.load-stream-requires
load-stream-requires c = sym c.fits.ensures ∙ c.if-fits.true

pub returns-then-fits : goal.returns-then-fits
unfolding deadline_export
returns-then-fits c = made _ _ refl (sym c.fits.ensures ∙ c.if-fits.true) (rw (c.of_deadline.ensures, c.next_deadline.ensures, c.load-stream.ensures))

pub returns : goal.returns
unfolding deadline_export
returns c = words_refused _ _ refl (sym c.fits.ensures ∙ c.if-fits.false) (rw c.refused_deadline.ensures)
