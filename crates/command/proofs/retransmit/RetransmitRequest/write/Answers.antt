-- The state test, and then the write over a tested state.
use mathlib.Core.Path.{sym, ◌∙◌}
use Rattle.packet.proofs.Written.{written_invalid}
use Rattle.command.proofs.retransmit.RetransmitRequest.write.Goals as goal

pub write_request-requires : goal.write_request-requires
write_request-requires c = sym c.is_valid.ensures ∙ c.if-is_valid.true

pub returns : goal.returns
returns c = rw c.refused.ensures (written_invalid _ _ _ (sym c.is_valid.ensures ∙ c.if-is_valid.false))
