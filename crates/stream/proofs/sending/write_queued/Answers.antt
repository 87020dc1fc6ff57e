-- The receiver and the payload are tested; since the sender's state passes, the state test is the receiver's.
use mathlib.Core.Path.{sym, ◌∙◌}
use Rattle.stream.proofs.Validity.{test_receiver, test_sender}
use Rattle.stream.proofs.Writing.{write_state, write_payload, write_made}
use Rattle.stream.proofs.sending.write_queued.Goals as goal
use Rattle.stream.proofs.sending.write_queued.Goals.{else-is_valid-via-then-is_valid+else-is_valid-2, else-is_valid-via-else-is_valid}

pub write_data-requires : goal.write_data-requires
write_data-requires c = (
  c.requires.0,
  sym (test_sender _ _ (sym c.is_valid.ensures ∙ c.if-is_valid.true) _ (sym c.requires.1)),
  sym c.is_valid-then-is_valid.ensures ∙ c.if-is_valid-2.true,
  c.requires.2,
)

pub returns-then-is_valid-2 : goal.returns-then-is_valid-2
returns-then-is_valid-2 c =
    c.write_data.ensures ∙ write_made _ _ _ _ _ _ c.requires.0 (sym (test_sender _ _ (sym c.is_valid.ensures ∙ c.if-is_valid.true) _ (sym c.requires.1))) (sym c.is_valid-then-is_valid.ensures ∙ c.if-is_valid-2.true)

pub returns : goal.returns
returns c = rw c.refused.ensures (elim c.else-is_valid.branch [
  | else-is_valid-via-then-is_valid+else-is_valid-2 w ↦ write_payload _ _ _ _ _ _ c.requires.0 (sym (test_sender _ _ (sym c.is_valid.ensures ∙ w.if-is_valid.true) _ (sym c.requires.1))) (sym w.is_valid-then-is_valid.ensures ∙ w.if-is_valid-2.false)
  | else-is_valid-via-else-is_valid w ↦ write_state _ _ _ _ _ _ c.requires.0 (sym (test_receiver _ _ (sym c.is_valid.ensures ∙ w.if-is_valid.false)))
])
