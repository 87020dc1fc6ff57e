-- No code but FF is data.
use mathlib.Core.Path.{sym, ap, ◌∙◌}
use Rattle.std.proofs.Common.{Ok}
use Rattle.read_command.proofs.Found.{other_data}
use Rattle.read_command.proofs.next.other.Goals as goal

pub returns-in-Ok-UmpData : goal.returns-in-Ok-UmpData
returns-in-Ok-UmpData c =
    other_data _ _ _ c.requires (sym c.parse.ensures ∙ c.in-Ok-UmpData.is ∙ ap Ok c.in-Ok-UmpData.field-0-is)
