-- The block of input keeps its length.
use Rattle.std.proofs.Common.{◌≡◌, length}
use Rattle.text.proofs.lines.Lines.each.Given as goal

abbrev pub invariant-loop : goal.invariant-loop
invariant-loop g l = goal.F-IsAlwaysCallable g l.answer × (length l.self.block.now ≡ length l.initial.self.block.now)
