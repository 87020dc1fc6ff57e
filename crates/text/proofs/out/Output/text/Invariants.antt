-- The block keeps its length, and each byte is counted as long as there is room for all.
use Rattle.std.proofs.Common.{◌≡◌, ◌+◌, ◌≤◌, length}
use Rattle.text.proofs.out.Output.text.Given as goal

abbrev pub invariant-loop-b : goal.invariant-loop-b
invariant-loop-b g l = (length l.self.block.now ≡ length l.initial.self.block.now) × (l.initial.self.used + length l.s ≤ length l.initial.self.block.now → l.self.used ≡ l.initial.self.used + l.b-index)
