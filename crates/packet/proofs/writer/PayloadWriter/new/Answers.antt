-- The test of the limit chooses as the definition does.
use mathlib.Core.Path.{sym, ◌∙◌}
use Rattle.packet.specs.Write.{opened_of}
use Rattle.packet.proofs.writer.PayloadWriter.new.Goals as goal

pub returns-then-outside : goal.returns-then-outside
unfolding opened_of
returns-then-outside c = rw (sym c.outside.ensures ∙ c.if-outside.true)

pub returns : goal.returns
unfolding opened_of
returns c = rw (sym c.outside.ensures ∙ c.if-outside.false)
