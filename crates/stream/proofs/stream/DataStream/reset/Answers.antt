-- Both states are tested.
use mathlib.Core.Path.{sym, ◌∙◌}
use Rattle.stream.proofs.Answers.{passed}
use Rattle.stream.proofs.Validity.{valid_receiver, valid_sender}
use Rattle.stream.proofs.stream.DataStream.reset.Goals as goal

pub reset-requires : goal.reset-requires
reset-requires c = valid_sender _ _ (passed _ (sym c.check.ensures ∙ c.in-Ok.is))

pub reset-requires-in-Ok : goal.reset-requires-in-Ok
reset-requires-in-Ok c = valid_receiver _ _ (passed _ (sym c.check.ensures ∙ c.in-Ok.is))
