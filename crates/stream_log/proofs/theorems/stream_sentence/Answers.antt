-- The contract is the theorem of `proofs/Sentence.antt`.
use Rattle.stream_log.proofs.Sentence.{stream_sentence}
use Rattle.stream_log.proofs.theorems.stream_sentence.Goals as goal

pub returns : goal.returns
returns c = stream_sentence
