-- Settings and state are tested, and the rest is `tested::send_ump`.
use mathlib.Core.Path.{sym, ◌∙◌}
use Rattle.config.specs.inner.Entries.{settings_refused, entry_refused, entry_made}
use Rattle.sender.specs.State.{valid_of}
use Rattle.sender.specs.Queueing.{unsent, sent_of}
use Rattle.sender.specs.Answers.{send_answer}
use Rattle.sender.proofs.sender.Sender.send_ump.Goals as goal

pub send_ump-requires : goal.send_ump-requires
send_ump-requires c =
    (sym c.is_valid.ensures ∙ c.if-is_valid.true, sym c.check.ensures ∙ c.in-Ok.is)

pub returns-then-is_valid : goal.returns-then-is_valid
unfolding send_answer
returns-then-is_valid c =
    c.send_ump.ensures ∙ entry_made (unsent _ _) _ (sym c.check.ensures ∙ c.in-Ok.is) (sym c.is_valid.ensures ∙ c.if-is_valid.true)

pub returns-in-Err : goal.returns-in-Err
unfolding send_answer
returns-in-Err c = settings_refused (unsent _ _) (sent_of _ _ _ _) (valid_of _ _) _ (sym c.check.ensures ∙ c.in-Err.is)

pub returns-else-is_valid : goal.returns-else-is_valid
unfolding send_answer
returns-else-is_valid c =
    entry_refused (unsent _ _) _ (sym c.check.ensures ∙ c.in-Ok.is) (sym c.is_valid.ensures ∙ c.if-is_valid.false)
