-- The state is tested, and the rest is `tested::next_deadline`.
use mathlib.Core.Path.{sym, ◌∙◌}
use Rattle.std.proofs.Common.{Err}
use Rattle.config.specs.inner.Entries.{state_refused, state_made}
use Rattle.sender.specs.Answers.{deadline_answer}
use Rattle.sender.proofs.sender.Sender.next_deadline.Goals as goal

pub returns-then-is_valid : goal.returns-then-is_valid
unfolding deadline_answer
returns-then-is_valid c =
    c.next_deadline.ensures ∙ state_made Err _ (sym c.is_valid.ensures ∙ c.if-is_valid.true)

pub returns : goal.returns
unfolding deadline_answer
returns c = state_refused Err _ (sym c.is_valid.ensures ∙ c.if-is_valid.false)
