-- The size is tested as a figure, and the set by whether it is below 2 ^ size.
use mathlib.Core.Path.{sym, ◌∙◌}
use Rattle.window.specs.Set.{max_window}
use Rattle.config.specs.inner.Ranges.{outside_not, within_range}
use Rattle.window.proofs.Validity.{valid_size, valid_bits}
use Rattle.window.proofs.tested.is_valid.Goals as goal

pub returns-then-outside : goal.returns-then-outside
returns-then-outside c = valid_size _ (sym c.outside.ensures ∙ c.if-outside.true)

pub below-requires : goal.below-requires
below-requires c =
    within_range 1 max_window c.args.w.size (outside_not 1 max_window c.args.w.size (sym c.outside.ensures ∙ c.if-outside.false))

pub returns : goal.returns
returns c =
    c.below.ensures ∙ valid_bits _ (sym c.outside.ensures ∙ c.if-outside.false)
