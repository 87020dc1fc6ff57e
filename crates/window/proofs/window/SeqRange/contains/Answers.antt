use mathlib.Core.Path.{ap}
use Prim.Native.Nat.{ℕ}
use lib.Dec.{ltb}
use Rattle.window.proofs.window.SeqRange.contains.Goals as goal

pub returns : goal.returns
returns c = ap (λ (x : ℕ). ltb x c.args.self.count) c.distance.ensures
