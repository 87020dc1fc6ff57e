-- One bit of one word is cleared.
use native.Mathlib.Omega.{arith}
use Rattle.held_notes.proofs.Bits.{has_without}
use Rattle.held_notes.proofs.set.without.Goals as goal

pub returns : goal.returns
returns c = has_without c.args.held c.args.note (omega arith)
