-- The receiver's part is long enough, and its flags are flags.
use Rattle.c_state.proofs.Streams.{receiver_known, part_lengths, part_flags}
use native.Mathlib.Omega.{arith}
use Rattle.c_state.proofs.state.receiver_in.Goals as goal

pub slice_bounds-load-end : goal.slice_bounds-load-end
slice_bounds-load-end c = omega (arith, (receiver_known c.args.words.now c.requires).0)

pub load-requires : goal.load-requires
load-requires c =
    ((part_lengths c.args.words.now (receiver_known c.args.words.now c.requires).0).0, part_flags c.args.words.now c.requires)

pub returns : goal.returns
returns c = c.load.ensures
