-- The size is tested, and the rest is `tested::starting_at`.
use mathlib.Core.Path.{sym, ◌∙◌}
use Rattle.window.specs.Set.{max_window}
use Rattle.config.specs.inner.Ranges.{outside_not, within_range}
use Rattle.window.proofs.Answers.{start_refused, start_window}
use Rattle.window.proofs.window.ReceiveWindow.starting_at.Goals as goal

pub returns-then-outside : goal.returns-then-outside
returns-then-outside c = start_refused _ _ (sym c.outside.ensures ∙ c.if-outside.true)

pub starting_at-requires : goal.starting_at-requires
starting_at-requires c =
    within_range 1 max_window c.args.size (outside_not 1 max_window c.args.size (sym c.outside.ensures ∙ c.if-outside.false))

pub returns : goal.returns
returns c =
    start_window _ _ (sym c.outside.ensures ∙ c.if-outside.false) c.starting_at.ensures
