-- The first word tells how many the message has, and the test whether they are there.
use mathlib.Core.Path.{sym, ◌∙◌}
use native.Mathlib.Omega.{arith}
use Rattle.packet.proofs.Reading.{length_words_of, word_found, word_missed}
use Rattle.command.proofs.Messages.{message_end, message_cut, message_whole}
use Rattle.command.proofs.message.UmpMessages.next.Goals as goal

pub overflow_sub-body : goal.overflow_sub-body
overflow_sub-body c =
    omega (arith, (word_found _ _ _ (sym c.word.ensures ∙ c.in-Some.is)).0, length_words_of c.args.body.now)

pub returns-then-body-at : goal.returns-then-body-at
returns-then-body-at c =
    let found = word_found _ _ _ (sym c.word.ensures ∙ c.in-Some.is) in
    message_cut _ _ found.0 _ found.1 _ c.message_words-len.ensures.0 (omega (arith, length_words_of c.args.body.now))

pub returns-in-None : goal.returns-in-None
returns-in-None c = message_end _ _ (word_missed _ _ (sym c.word.ensures ∙ c.in-None.is))

pub returns-else-body-at : goal.returns-else-body-at
returns-else-body-at c =
    let found = word_found _ _ _ (sym c.word.ensures ∙ c.in-Some.is) in
    message_whole _ _ found.0 _ found.1 _ c.message_words-len.ensures.0 (omega (arith, length_words_of c.args.body.now))
