-- There is a first word, or there is none.
use mathlib.Core.Path.{sym, ◌∙◌}
use Rattle.command.proofs.Parsing.{request_absent, request_word}
use Rattle.command.proofs.parse.request.Goals as goal

pub returns-in-None : goal.returns-in-None
returns-in-None c = request_absent c.args.header _ (sym c.word.ensures ∙ c.in-None.is)

pub returns-in-Some : goal.returns-in-Some
returns-in-Some c =
    request_word c.args.header _ _ _ (sym c.word.ensures ∙ c.in-Some.is) c.csd.ensures
