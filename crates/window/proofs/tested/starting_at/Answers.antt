-- The lowest `size` positions are all that the window has.
use mathlib.Core.Path.{ap}
use Prim.Native.Nat.{ℕ}
use Rattle.window.specs.declared.set.Bits.{Bits}
use Rattle.window.specs.declared.window.ReceiveWindow.{ReceiveWindow}
use Rattle.window.proofs.tested.starting_at.Goals as goal

abbrev made : ℕ → ℕ → Bits → ReceiveWindow
made size highest s = record { size = size; highest = highest; bits = s }

pub returns : goal.returns
returns c = ap (made c.args.size c.args.highest) c.lowest-bits.ensures
