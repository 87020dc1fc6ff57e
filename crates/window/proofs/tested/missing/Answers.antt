-- The span of the missing positions.
use mathlib.Core.Path.{ap, ◌∙◌}
use Rattle.window.specs.Window.{span_of}
use Rattle.window.proofs.Words.{val_is}
use Rattle.window.proofs.tested.missing.Goals as goal

pub returns : goal.returns
returns c =
    c.span_of.ensures ∙ ap (span_of c.args.w.highest 0) (val_is _ _ c.missing_set.ensures)
