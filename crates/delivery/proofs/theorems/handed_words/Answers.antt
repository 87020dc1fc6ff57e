-- The contract is the theorem of `proofs/Delivery.antt`.
use Rattle.delivery.proofs.Delivery.{handed_words_lem}
use Rattle.delivery.proofs.theorems.handed_words.Goals as goal

pub returns : goal.returns
returns c = handed_words_lem
