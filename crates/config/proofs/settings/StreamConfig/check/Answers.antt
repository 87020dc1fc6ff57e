-- Each answer of `check_of` is reached by the tests that the code has passed.
use Rattle.config.proofs.Checks.{refused_words, refused_interval, refused_growth, passed}
use Rattle.std.proofs.Common.{sym, ◌∙◌}
use Rattle.config.proofs.settings.StreamConfig.check.Goals as goal

pub returns-then-outside : goal.returns-then-outside
returns-then-outside c = refused_words _ (sym c.outside.ensures ∙ c.if-outside.true)

pub returns-then-outside-2 : goal.returns-then-outside-2
returns-then-outside-2 c = refused_interval _ (sym c.outside.ensures ∙ c.if-outside.false) (sym c.outside-2.ensures ∙ c.if-outside-2.true)

pub returns-then-self-eq0 : goal.returns-then-self-eq0
returns-then-self-eq0 c = refused_growth _ (sym c.outside.ensures ∙ c.if-outside.false) (sym c.outside-2.ensures ∙ c.if-outside-2.false) c.if-self-eq0.true

pub returns : goal.returns
returns c = passed _ (sym c.outside.ensures ∙ c.if-outside.false) (sym c.outside-2.ensures ∙ c.if-outside-2.false) c.if-self-eq0.false
