-- The state is tested, and the rest is `tested::next_seq`.
use mathlib.Core.Path.{sym, ap, ◌∙◌}
use Rattle.std.proofs.Common.{Ok, Err}
use Rattle.config.specs.inner.Entries.{state_refused, state_made}
use Rattle.sender.specs.Answers.{next_answer}
use Rattle.sender.proofs.Validity.{valid_unsent}
use Rattle.sender.proofs.sender.Sender.next_seq.Goals as goal

pub next_seq-requires : goal.next_seq-requires
next_seq-requires c = valid_unsent _ _ (sym c.is_valid.ensures ∙ c.if-is_valid.true)

pub returns-then-is_valid : goal.returns-then-is_valid
unfolding next_answer
returns-then-is_valid c =
    ap Ok c.next_seq.ensures ∙ state_made Err _ (sym c.is_valid.ensures ∙ c.if-is_valid.true)

pub returns : goal.returns
unfolding next_answer
returns c = state_refused Err _ (sym c.is_valid.ensures ∙ c.if-is_valid.false)
