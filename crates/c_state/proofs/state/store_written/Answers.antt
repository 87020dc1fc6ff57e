-- Both ends' words are all.
use mathlib.Core.Path.{ap, ◌∙◌}
use mathlib.Core.List.{List}
use Prim.Native.Nat.{ℕ}
use lib.ListN.{length}
use Rattle.c_state.specs.Stream.{with_sender}
use Rattle.c_state.proofs.Streams.{both_fit, receiver_known, stream_put, receiver_length}
use Rattle.c_state.proofs.state.store_written.Goals as goal

pub store_changed-requires : goal.store_changed-requires
store_changed-requires c = ((both_fit _ c.requires.0).0, c.requires.1, c.requires.3)

pub store_sender-requires : goal.store_sender-requires
store_sender-requires c = let k = receiver_known c.args.words.now (both_fit _ c.requires.0).0 in (ap length c.store_changed.ensures ∙ receiver_length c.args.words.now c.args.s.receiver k.0, c.requires.2)

pub returns : goal.returns
returns c = let k = receiver_known c.args.words.now (both_fit _ c.requires.0).0 in c.store_sender.ensures ∙ ap (λ (l : List ℕ). with_sender l c.args.s.sender) c.store_changed.ensures ∙ stream_put c.args.words.now c.args.s k.0
