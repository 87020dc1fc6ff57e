-- The sender's part is long enough.
use mathlib.Core.Path.{ap, ◌∙◌}
use Rattle.c_state.specs.Sender.{sender_of}
use Rattle.c_state.proofs.Parts.{rest_whole, rest_length}
use Rattle.c_state.proofs.Streams.{sender_known}
use native.Mathlib.Omega.{arith}
use Rattle.c_state.proofs.state.sender_in.Goals as goal

pub slice_bounds-load-count : goal.slice_bounds-load-count
slice_bounds-load-count c = omega (arith, (sender_known c.args.words.now c.requires).0)

pub slice_bounds-load-start : goal.slice_bounds-load-start
slice_bounds-load-start c = omega (arith, (sender_known c.args.words.now c.requires).0)

pub load-requires : goal.load-requires
load-requires c =
    rest_length 7 13 c.args.words.now (sender_known c.args.words.now c.requires).0

pub returns : goal.returns
returns c = c.load.ensures ∙ ap sender_of (rest_whole 7 c.args.words.now)
