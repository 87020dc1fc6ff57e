-- The signature's bytes are what the definition compares.
use Rattle.std.proofs.Common.{◌∙◌}
use Rattle.packet.proofs.Reading.{signed_starts}
use Rattle.packet.proofs.cursor.is_signed.Goals as goal

pub returns : goal.returns
returns c = c.starts_with.ensures.value ∙ signed_starts _
