-- Past the last word a list gives 0 too.
use mathlib.Core.Path.{sym, ◌∙◌}
use lib.ListN.{get_or-eq_default}
use Rattle.packet.specs.Bytes.{words_of}
use Rattle.packet.proofs.Reading.{word_found, word_missed}
use Rattle.command.proofs.message.word_at.Goals as goal

pub returns-in-Some : goal.returns-in-Some
returns-in-Some c = (word_found _ _ _ (sym c.word.ensures ∙ c.in-Some.is)).1

pub returns-in-None : goal.returns-in-None
returns-in-None c = sym (get_or-eq_default (words_of c.args.body.now) 0 (word_missed _ _ (sym c.word.ensures ∙ c.in-None.is)))
