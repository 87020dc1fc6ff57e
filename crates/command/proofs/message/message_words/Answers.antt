-- The digits are the lengths of the definition, for all sixteen types.
use native.Mathlib.Omega.{arith}
use Rattle.command.proofs.Messages.{digit_right}
use Rattle.command.proofs.message.message_words.Goals as goal

pub returns : goal.returns
returns c = digit_right _ (omega arith)
