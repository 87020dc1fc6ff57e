-- The bytes end inside a message where the whole messages are not all words.
use mathlib.Core.Path.{sym, ◌∙◌}
use Rattle.receiver.proofs.Handed.{cut_part, cut_none}
use Rattle.receiver.proofs.messages.is_cut.Goals as goal

pub returns-then-delivers : goal.returns-then-delivers
returns-then-delivers c =
    cut_part _ _ (sym c.delivers.ensures ∙ c.if-delivers.true) _ c.whole_words_in.ensures

pub returns-else-delivers : goal.returns-else-delivers
returns-else-delivers c = c.if-delivers.false ∙ cut_none _ _ (sym c.delivers.ensures ∙ c.if-delivers.false)
