-- Its figures, then its requests.
use mathlib.Core.Path.{ap, ◌∙◌}
use mathlib.Core.List.{List}
use Prim.Native.Nat.{ℕ}
use lib.ListN.{length}
use Rattle.packet.specs.Bytes.{spliced}
use Rattle.c_state.specs.Sender.{figure_words}
use Rattle.c_state.proofs.Requests.{length_words}
use Rattle.c_state.proofs.Senders.{length_figures}
use Rattle.c_state.proofs.Streams.{figures_length, sender_put}
use native.Mathlib.Omega.{arith}
use Rattle.c_state.proofs.state.store_sender.Goals as goal

pub figures-new-requires : goal.figures-new-requires
figures-new-requires c = c.requires.1

pub put-requires : goal.put-requires
put-requires c = omega (arith, c.requires.0, ap length c.figures-new.ensures, length_figures c.args.sender)

pub put-requires-2 : goal.put-requires-2
put-requires-2 c = omega (arith, figures_length c.args.words.now _ _ c.args.sender c.requires.0 c.figures-new.ensures c.put.ensures, ap length c.requests-waiting.ensures, length_words 8 c.args.sender.queue.items)

pub returns : goal.returns
returns c = c.put-2.ensures ∙ ap (λ (l : List ℕ). spliced l 12 c.requests-waiting.result) (c.put.ensures ∙ ap (spliced c.args.words.now 7) c.figures-new.ensures) ∙ ap (spliced (spliced c.args.words.now 7 (figure_words c.args.sender)) 12) c.requests-waiting.ensures ∙ sender_put c.args.words.now c.args.sender c.requires.0
