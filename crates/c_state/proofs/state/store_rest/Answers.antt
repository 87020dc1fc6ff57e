-- The words of a receiver at rest.
use mathlib.Core.Path.{sym, ap, subst, ◌∙◌}
use Prim.Native.Nat.{◌<◌}
use Rattle.receiver.specs.declared.receiver.Receiver.{Receiver}
use Rattle.c_state.specs.Stream.{with_receiver}
use Rattle.c_state.proofs.state.store_rest.Goals as goal

pub store_receiver-requires : goal.store_receiver-requires
store_receiver-requires c = (c.requires.0, subst (λ (x : Receiver). x.window.size < 65536) (sym c.rest.ensures) c.requires.1)

pub returns : goal.returns
returns c = c.store_receiver.ensures ∙ ap (with_receiver c.args.words.now) c.rest.ensures
