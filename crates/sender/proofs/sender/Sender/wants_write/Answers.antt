-- The state is tested, and the rest is `tested::wants_write`.
use mathlib.Core.Path.{sym, ap, ◌∙◌}
use Rattle.std.proofs.Common.{Ok, Err}
use Rattle.config.specs.inner.Entries.{state_refused, state_made}
use Rattle.sender.specs.Answers.{wants_answer}
use Rattle.sender.proofs.sender.Sender.wants_write.Goals as goal

pub returns-then-is_valid : goal.returns-then-is_valid
unfolding wants_answer
returns-then-is_valid c =
    ap Ok c.wants_write.ensures ∙ state_made Err _ (sym c.is_valid.ensures ∙ c.if-is_valid.true)

pub returns : goal.returns
unfolding wants_answer
returns c = state_refused Err _ (sym c.is_valid.ensures ∙ c.if-is_valid.false)
