-- The test of the reason chooses as the definition does.
use mathlib.Core.Path.{sym, ◌∙◌}
use Rattle.command.proofs.Written.{error_undefined, error_defined}
use Rattle.command.proofs.tested.write_error.Goals as goal

pub returns-then-is_defined : goal.returns-then-is_defined
returns-then-is_defined c =
    c.command.ensures ∙ rw c.from.ensures (error_defined _ _ _ c.requires (sym c.is_defined.ensures ∙ c.if-is_defined.true))

pub returns : goal.returns
returns c =
    rw c.refused.ensures (error_undefined _ _ _ c.requires (sym c.is_defined.ensures ∙ c.if-is_defined.false))
