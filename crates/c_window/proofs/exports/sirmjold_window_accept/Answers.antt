-- The words are loaded, and the call is made on them.
use mathlib.Core.Path.{refl, sym, ◌∙◌}
use Rattle.c_words.proofs.Entries.{made, words_refused}
use Rattle.c_window.specs.Window.{accept_export}
use Rattle.c_window.proofs.Windows.{window_known}
use Rattle.c_window.proofs.Accepting.{accepted_out}
use Rattle.c_window.proofs.exports.sirmjold_window_accept.Goals as goal

pub load-before-requires : goal.load-before-requires
load-before-requires c = sym c.fits.ensures ∙ c.if-fits.true

pub accept-requires : goal.accept-requires
accept-requires c = ((window_known _ (sym c.fits.ensures ∙ c.if-fits.true)).whole, sym c.load-before.ensures)

pub returns-then-fits : goal.returns-then-fits
unfolding accept_export
returns-then-fits c = made _ _ refl (sym c.fits.ensures ∙ c.if-fits.true) (accepted_out c.args.w.now _ _ _ _ _ c.load-before.ensures c.accept.ensures c.of_acceptance.ensures)

pub returns : goal.returns
unfolding accept_export
returns c = words_refused _ _ refl (sym c.fits.ensures ∙ c.if-fits.false) (rw c.refused_delivery.ensures)
