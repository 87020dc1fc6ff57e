-- Settings and state are tested, and the rest is `tested::on_retransmit_request`.
use mathlib.Core.Path.{sym, ◌∙◌}
use Rattle.config.specs.inner.Entries.{settings_refused, entry_refused, entry_made}
use Rattle.sender.specs.Requests.{requested_of}
use Rattle.sender.specs.State.{valid_of}
use Rattle.sender.specs.Answers.{request_answer, request_refused}
use Rattle.sender.proofs.Validity.{valid_unsent, valid_fit}
use Rattle.sender.proofs.sender.Sender.on_retransmit_request.Goals as goal

pub on_retransmit_request-requires : goal.on_retransmit_request-requires
on_retransmit_request-requires c = let v = sym c.is_valid.ensures ∙ c.if-is_valid.true in (valid_unsent _ _ v, valid_fit _ _ v)

pub returns-then-is_valid : goal.returns-then-is_valid
unfolding request_answer
returns-then-is_valid c =
    c.on_retransmit_request.ensures ∙ entry_made (request_refused _) _ (sym c.check.ensures ∙ c.in-Ok.is) (sym c.is_valid.ensures ∙ c.if-is_valid.true)

pub returns-in-Err : goal.returns-in-Err
unfolding request_answer
returns-in-Err c =
    settings_refused (request_refused _) (requested_of _ _ _) (valid_of _ _) _ (sym c.check.ensures ∙ c.in-Err.is)

pub returns-else-is_valid : goal.returns-else-is_valid
unfolding request_answer
returns-else-is_valid c =
    entry_refused (request_refused _) _ (sym c.check.ensures ∙ c.in-Ok.is) (sym c.is_valid.ensures ∙ c.if-is_valid.false)
