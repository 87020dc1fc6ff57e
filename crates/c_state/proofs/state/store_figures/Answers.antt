-- The requests stand there already.
use mathlib.Core.Path.{ap, ◌∙◌}
use lib.ListN.{length}
use Rattle.packet.specs.Bytes.{spliced}
use Rattle.c_state.proofs.Senders.{length_figures}
use Rattle.c_state.proofs.Streams.{sender_known, figures_put}
use native.Mathlib.Omega.{arith}
use Rattle.c_state.proofs.state.store_figures.Goals as goal

pub put-requires : goal.put-requires
put-requires c = omega (arith, (sender_known c.args.words.now c.requires.0).0, ap length c.figures-new.ensures, length_figures c.args.sender)

pub returns : goal.returns
returns c = c.put.ensures ∙ ap (spliced c.args.words.now 7) c.figures-new.ensures ∙ figures_put c.args.words.now c.args.sender c.requires.0 c.requires.2
