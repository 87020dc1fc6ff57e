-- The payload is opened, and the command is written into it.
use mathlib.Core.Path.{sym, ◌∙◌}
use Rattle.c_payload.proofs.Answers.{payload_made, payload_refused}
use Rattle.c_payload.proofs.sirmjold_ump_data_payload.Goals as goal

pub returns-in-Ok : goal.returns-in-Ok
returns-in-Ok c = payload_made _ _ _ _ _ _ _ _ (sym c.new.ensures ∙ c.in-Ok.is) c.write.ensures c.made.ensures

pub returns-in-Err : goal.returns-in-Err
returns-in-Err c = payload_refused _ _ _ _ _ _ (sym c.new.ensures ∙ c.in-Err.is) c.number.ensures
