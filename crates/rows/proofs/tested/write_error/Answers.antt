-- The reason is a defined one, so the error is written as any command, and is a row of its own.
use mathlib.Core.Path.{refl, ◌∙◌}
use Rattle.rows.proofs.Filling.{row_answered, error_written_lem}
use Rattle.rows.proofs.tested.write_error.Goals as goal

pub returns : goal.returns
returns c =
    row_answered _ _ _ _ _ (c.write_error-answer.ensures ∙ error_written_lem _ _ _ c.requires.0 c.requires.1) _ _ _ refl c.is_ok-whole.ensures.value c.from.ensures
