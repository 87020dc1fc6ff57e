-- The state test, and then the write over a tested state.
use mathlib.Core.Path.{sym, ◌∙◌}
use Rattle.packet.proofs.Written.{written_invalid}
use Rattle.packet.proofs.writer.PayloadWriter.command.Goals as goal

pub command-requires : goal.command-requires
command-requires c = sym c.is_valid.ensures ∙ c.if-is_valid.true

pub returns : goal.returns
returns c = written_invalid _ _ _ (sym c.is_valid.ensures ∙ c.if-is_valid.false)
