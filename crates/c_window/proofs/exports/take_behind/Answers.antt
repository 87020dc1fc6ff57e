-- A duplicate changes nothing.
use mathlib.Core.Path.{sym, ap, ◌∙◌}
use Rattle.c_window.specs.Window.{is_duplicate, taken_into}
use Rattle.c_window.proofs.Accepting.{duplicate_stays}
use Rattle.c_window.proofs.exports.take_behind.Goals as goal

pub classify-requires : goal.classify-requires
classify-requires c = c.requires.2

pub returns-then-is_duplicate : goal.returns-then-is_duplicate
returns-then-is_duplicate c = duplicate_stays _ _ _ c.requires.0 c.requires.1 (ap is_duplicate (sym c.classify.ensures) ∙ sym c.is_duplicate.ensures ∙ c.if-is_duplicate.true)

pub accept_behind-requires : goal.accept_behind-requires
accept_behind-requires c = (c.requires.2, c.requires.3)

pub returns : goal.returns
returns c = c.take.ensures ∙ ap taken_into c.accept_behind.ensures
