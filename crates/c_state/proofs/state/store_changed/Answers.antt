-- A receiver that is not new stands there already.
use mathlib.Core.Path.{sym, ap, ◌∙◌}
use Rattle.c_state.specs.Stream.{with_receiver}
use Rattle.c_state.proofs.Streams.{receiver_known, receiver_same}
use Rattle.c_state.proofs.state.store_changed.Goals as goal

pub store_receiver-requires : goal.store_receiver-requires
store_receiver-requires c = ((receiver_known _ c.requires.0).0, c.requires.1)

pub returns-else-changed : goal.returns-else-changed
returns-else-changed c = sym (receiver_same c.args.words.now c.requires.0) ∙ ap (with_receiver c.args.words.now) (sym (c.requires.2 c.if-changed.false))
