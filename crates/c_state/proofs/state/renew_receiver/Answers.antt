-- Its words, stored from the first on.
use mathlib.Core.Path.{ap, ◌∙◌}
use lib.ListN.{length}
use Rattle.packet.specs.Bytes.{spliced}
use Rattle.c_state.proofs.Receivers.{length_receiver}
use native.Mathlib.Omega.{arith}
use Rattle.c_state.proofs.state.renew_receiver.Goals as goal

pub words_of-new-requires : goal.words_of-new-requires
words_of-new-requires c = c.requires.1

pub renew-requires : goal.renew-requires
renew-requires c = omega (arith, c.requires.0, ap length c.words_of-new.ensures, length_receiver c.args.receiver)

pub returns : goal.returns
returns c = c.renew.ensures ∙ ap (spliced c.args.words.now 0) c.words_of-new.ensures
