-- Both ends' words are all.
use mathlib.Core.Path.{ap, ◌∙◌}
use mathlib.Core.List.{List}
use Prim.Native.Nat.{ℕ}
use lib.ListN.{length}
use Rattle.c_state.specs.Stream.{with_sender}
use Rattle.c_state.proofs.Streams.{stream_put, receiver_length}
use Rattle.c_state.proofs.state.store.Goals as goal

pub store_receiver-requires : goal.store_receiver-requires
store_receiver-requires c = (c.requires.0, c.requires.1.0)

pub store_sender-requires : goal.store_sender-requires
store_sender-requires c =
    (ap length c.store_receiver.ensures ∙ receiver_length c.args.words.now c.args.s.receiver c.requires.0, c.requires.1.1)

pub returns : goal.returns
returns c =
    c.store_sender.ensures
    ∙ ap (λ (l : List ℕ). with_sender l c.args.s.sender) c.store_receiver.ensures
    ∙ stream_put c.args.words.now c.args.s c.requires.0
