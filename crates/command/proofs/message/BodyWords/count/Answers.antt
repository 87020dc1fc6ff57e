use Rattle.std.proofs.Common.{sym}
use Rattle.packet.proofs.Reading.{length_words_of}
use Rattle.command.proofs.message.BodyWords.count.Goals as goal

pub returns : goal.returns
returns c = sym (length_words_of c.args.self.bytes.now)
