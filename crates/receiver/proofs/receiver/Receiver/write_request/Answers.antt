-- What a test refuses changes nothing.
use mathlib.Core.Path.{sym, ◌∙◌}
use Rattle.receiver.specs.Receiver.{taken_of}
use Rattle.receiver.specs.Answers.{request_refused, take_answer}
use Rattle.receiver.proofs.Answers.{denied}
use Rattle.receiver.proofs.receiver.Receiver.write_request.Goals as goal

pub returns-in-Err : goal.returns-in-Err
unfolding take_answer
returns-in-Err c = denied (request_refused _ _ _) (taken_of _ _ _ _) _ _ _ (sym c.ready_to_write.ensures ∙ c.in-Err.is)
