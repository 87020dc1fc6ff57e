-- There is a first word, or there is none.
use mathlib.Core.Path.{sym, ◌∙◌}
use Rattle.command.proofs.Parsing.{error_absent, error_word}
use Rattle.command.proofs.parse.error.Goals as goal

pub returns-in-None : goal.returns-in-None
returns-in-None c = error_absent c.args.header _ (sym c.word.ensures ∙ c.in-None.is)

pub returns-in-Some : goal.returns-in-Some
returns-in-Some c = error_word c.args.header _ _ (sym c.word.ensures ∙ c.in-Some.is)
