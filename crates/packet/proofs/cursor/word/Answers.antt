-- A word is there exactly when its four bytes are.
use Rattle.packet.proofs.Reading.{word_here, word_absent}
use borrow.Author.Rules.{rules}
use Rattle.packet.proofs.cursor.word.Goals as goal

pub returns-then-index-body : goal.returns-then-index-body
returns-then-index-body c = word_here _ _ (search rules) _ c.get_word.ensures

pub returns : goal.returns
returns c = word_absent _ _ c.if-index-body.false
