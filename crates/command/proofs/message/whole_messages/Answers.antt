-- All words are words of whole messages where these are as many.
use Rattle.command.specs.inner.Messages.{whole_all}
use Rattle.command.proofs.message.whole_messages.Goals as goal

pub returns : goal.returns
returns c = whole_all _ _ c.whole_words.ensures
