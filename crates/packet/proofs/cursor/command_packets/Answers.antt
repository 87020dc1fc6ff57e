-- The signature test chooses as the definition does.
use mathlib.Core.Path.{sym, ◌∙◌}
use Rattle.packet.proofs.Reading.{open_signed, open_unsigned}
use Rattle.packet.proofs.cursor.command_packets.Goals as goal

pub returns-then-is_signed : goal.returns-then-is_signed
returns-then-is_signed c = open_signed _ (sym c.is_signed.ensures ∙ c.if-is_signed.true)

pub returns : goal.returns
returns c = open_unsigned _ (sym c.is_signed.ensures ∙ c.if-is_signed.false)
