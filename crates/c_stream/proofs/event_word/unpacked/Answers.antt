-- Each field is a figure.
use Rattle.c_stream.proofs.EventWords.{event_made}
use Rattle.c_stream.proofs.event_word.unpacked.Goals as goal

pub returns : goal.returns
returns c = event_made _ _ _ c.four-figures.ensures c.two-small.ensures
