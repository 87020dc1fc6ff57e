-- Header and both runs of words, stored after what the payload begins with, are the command's bytes.
use native.Mathlib.Omega.{arith}
use lib.ListN.{length-append}
use Rattle.packet.proofs.Written.{placed_runs}
use Rattle.packet.proofs.tested.put_runs.Goals as goal

pub returns : goal.returns
returns c = (
  simp length-append (omega arith),
  placed_runs c.args.p _ _ _ _ _ _ _ _ _ _ _ c.begin-at.ensures.0 c.begin-at.ensures.1 c.put_header.ensures c.put_words.ensures c.put_words-2.ensures (omega arith),
)
