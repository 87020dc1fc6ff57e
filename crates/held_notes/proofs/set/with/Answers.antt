-- One bit of one word is set.
use native.Mathlib.Omega.{arith}
use Rattle.held_notes.proofs.Bits.{has_with}
use Rattle.held_notes.proofs.set.with.Goals as goal

pub returns : goal.returns
returns c = has_with c.args.held c.args.note (omega arith)
