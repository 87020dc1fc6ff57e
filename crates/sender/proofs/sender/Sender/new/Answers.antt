-- Each test is one of the definition's; a start that passes them zeroes the lent history.
use mathlib.Core.Path.{sym, ◌∙◌}
use Rattle.sender.proofs.Answers.{new_words, new_length, new_places, sizes_fit, new_done}
use Rattle.sender.proofs.sender.Sender.new.Goals as goal

pub returns-then-outside : goal.returns-then-outside
returns-then-outside c = new_words _ _ _ _ c.not_started.ensures (sym c.outside.ensures ∙ c.if-outside.true)

pub returns-then-ring-words : goal.returns-then-ring-words
returns-then-ring-words c = new_length _ _ _ _ c.not_started-then-ring-words.ensures (sym c.outside.ensures ∙ c.if-outside.false) c.if-ring-words.true

pub returns-then-outside-2 : goal.returns-then-outside-2
returns-then-outside-2 c = new_places _ _ _ _ c.not_started-then-outside-2.ensures (sym c.outside.ensures ∙ c.if-outside.false) c.if-ring-words.false (sym c.outside-2.ensures ∙ c.if-outside-2.true)

pub start-requires : goal.start-requires
start-requires c = sizes_fit _ _ _ (sym c.outside.ensures ∙ c.if-outside.false) c.if-ring-words.false (sym c.outside-2.ensures ∙ c.if-outside-2.false)

pub returns : goal.returns
returns c = new_done _ _ _ _ _ (sym c.outside.ensures ∙ c.if-outside.false) c.if-ring-words.false (sym c.outside-2.ensures ∙ c.if-outside-2.false) c.start.ensures
