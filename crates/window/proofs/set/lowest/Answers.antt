-- The digits that a shift to the right leaves, in the low word or above it.
use Prim.Native.Nat.{◌-◌, ◌%◌}
use native.Mathlib.Omega.{arith}
use Rattle.window.proofs.Words.{lowest_low, lowest_high}
use Rattle.window.proofs.set.lowest.Goals as goal

pub returns-then-n-le-WORD : goal.returns-then-n-le-WORD
returns-then-n-le-WORD c = lowest_low c.args.n ((128 - c.args.n) % 64) (omega arith)

pub returns : goal.returns
returns c = lowest_high c.args.n ((128 - c.args.n) % 64) (omega arith) (omega arith)
