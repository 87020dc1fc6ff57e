-- The words with the new window, from the first on.
use mathlib.Core.Path.{ap, ◌∙◌}
use lib.ListN.{length}
use Rattle.packet.specs.Bytes.{spliced}
use Rattle.c_state.specs.Receiver.{with_window}
use Rattle.c_state.specs.Stream.{receiver_in}
use Rattle.c_state.proofs.Receivers.{length_receiver}
use Rattle.c_state.proofs.Streams.{receiver_known, part_lengths}
use native.Mathlib.Omega.{arith}
use Rattle.c_state.proofs.state.store_window.Goals as goal

pub slice_bounds-with_window-end : goal.slice_bounds-with_window-end
slice_bounds-with_window-end c = omega (arith, (receiver_known c.args.words.now c.requires.0).0)

pub with_window-new-requires : goal.with_window-new-requires
with_window-new-requires c = let k = receiver_known c.args.words.now c.requires.0 in ((part_lengths c.args.words.now k.0).0, k.1, c.requires.1)

pub put-requires : goal.put-requires
put-requires c = omega (arith, (receiver_known c.args.words.now c.requires.0).0, ap length c.with_window-new.ensures, length_receiver (with_window (receiver_in c.args.words.now) c.args.window))

pub returns : goal.returns
returns c = c.put.ensures ∙ ap (spliced c.args.words.now 0) c.with_window-new.ensures
