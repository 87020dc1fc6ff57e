-- The settings' number first; then the run is made with the whole of each history.
use mathlib.Core.Path.{refl, ap}
use Rattle.c_words.proofs.Entries.{made, settings_refused}
use Rattle.c_words.proofs.Figures.{passed, figures_small}
use Rattle.c_link.specs.Export.{reported, run_export}
use Rattle.c_link.proofs.sirmjold_link_run.Goals as goal

pub load-requires : goal.load-requires
load-requires c = figures_small _ (passed _ c.number-number.ensures c.if-number-eq0.true)

pub returns-then-number-eq0 : goal.returns-then-number-eq0
unfolding run_export
returns-then-number-eq0 c =
    let q = rw c.load.ensures at c.run.ensures in
    made _ _ (passed _ c.number-number.ensures c.if-number-eq0.true) refl (rw c.report.ensures (ap reported q))

pub returns : goal.returns
unfolding run_export
returns c = settings_refused _ _ _ _ c.number-number.ensures c.if-number-eq0.false (rw c.refused.ensures)
