use Rattle.std.proofs.Common.{arith, refl}
use Rattle.packet.proofs.Words.{words_none, words_more}
use Rattle.packet.proofs.bytes.put_words.Goals as goal

pub loop-j-init : goal.loop-j-init
loop-j-init c = words_none _ _ (omega arith)

pub loop-j-preserved : goal.loop-j-preserved
loop-j-preserved c =
    words_more c.args.buf.now c.loop-j.buf _ c.args.words.now c.args.at c.loop-j.j _ refl c.loop-j-test.true c.requires c.loop-j.invariant c.put_word.ensures
