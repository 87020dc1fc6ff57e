-- The first word tells how many the message has, and the test whether they are there.
use Rattle.std.proofs.Common.{ap, arith}
use Rattle.command.specs.Messages.{item_words}
use Rattle.command.proofs.Messages.{message_end, message_cut, message_whole}
use Rattle.command.proofs.message.message.Goals as goal

pub returns-then-count-at : goal.returns-then-count-at
returns-then-count-at g c = ap item_words (message_end (g.W.Words.words c.args.words) c.args.at (omega arith))

pub returns-then-count-at-2 : goal.returns-then-count-at-2
returns-then-count-at-2 g c =
    ap item_words (message_cut (g.W.Words.words c.args.words) c.args.at (omega arith) _ c.word.ensures _ c.message_words-n.ensures.0 (omega arith))

pub returns-else-count-at-2 : goal.returns-else-count-at-2
returns-else-count-at-2 g c =
    ap item_words (message_whole (g.W.Words.words c.args.words) c.args.at (omega arith) _ c.word.ensures _ c.message_words-n.ensures.0 (omega arith))
