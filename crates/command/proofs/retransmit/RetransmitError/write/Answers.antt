-- The state test, and then the write over a tested state.
use mathlib.Core.Path.{sym, ◌∙◌}
use Rattle.command.proofs.Written.{error_invalid}
use Rattle.command.proofs.retransmit.RetransmitError.write.Goals as goal

pub write_error-requires : goal.write_error-requires
write_error-requires c = sym c.is_valid.ensures ∙ c.if-is_valid.true

pub returns : goal.returns
returns c = rw c.refused.ensures (error_invalid _ _ _ (sym c.is_valid.ensures ∙ c.if-is_valid.false))
